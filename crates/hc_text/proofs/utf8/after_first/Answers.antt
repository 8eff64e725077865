use Rattle.std.proofs.Common.{◌≡◌, ℕ, ◌≤◌, ◌↔◌, List, ◌∷◌, arith, subst, sym, inl, inr}
use Rattle.std.specs.Str.{IsUtf8}
use Rattle.hc_text.specs.declared.utf8.Expected.{Expected}
use Rattle.hc_text.specs.declared.utf8.Expected.TheVariants.{Character, Following}
use Rattle.hc_text.specs.Utf8.{Follows}
use Rattle.hc_text.specs.Utf8.{IsNext}
use Rattle.hc_text.proofs.Characters.{first_of_one, first_of_two, first_of_three, first_of_four, refused_first, Seconds3, Seconds4, seconds_e0, seconds_ed, seconds_rest, seconds_f0, seconds_f1, seconds_f4}
use Rattle.hc_text.proofs.utf8.after_first.Goals as goal

made : (e : Expected) (more low high b : ℕ) → e ≡ Following more low high → 1 ≤ more → 128 ≤ low → low ≤ high
    → ((x : List ℕ) → Follows more low high x ↔ IsUtf8 (b ∷ x)) → IsNext Character b e
made e more low high b same one lo le text = subst (IsNext Character b) (sym same) ((one, lo, le), text)

pub returns-in-0-to-127-clause-next : goal.returns-in-0-to-127-clause-next
returns-in-0-to-127-clause-next c = (tt, first_of_one c.args.byte (omega arith))

pub returns-in_default-clause-refused : goal.returns-in_default-clause-refused
returns-in_default-clause-refused c = λ rest. refused_first c.args.byte rest (omega arith) (inl (omega arith))

pub returns-in_default-2-clause-refused : goal.returns-in_default-2-clause-refused
returns-in_default-2-clause-refused c = λ rest. refused_first c.args.byte rest (omega arith) (inr (omega arith))

pub returns-in-224-clause-next : goal.returns-in-224-clause-next
returns-in-224-clause-next c = let same : 224 ≡ c.args.byte = omega arith in made c.following.result 2 160 191 c.args.byte c.following.ensures (omega arith) (omega arith) (omega arith) (first_of_three c.args.byte 160 191 (omega arith) (omega arith) (subst (λ (b : ℕ). Seconds3 b 160 191) same seconds_e0))

pub returns-in-237-clause-next : goal.returns-in-237-clause-next
returns-in-237-clause-next c = let same : 237 ≡ c.args.byte = omega arith in made c.following-in-237.result 2 128 159 c.args.byte c.following-in-237.ensures (omega arith) (omega arith) (omega arith) (first_of_three c.args.byte 128 159 (omega arith) (omega arith) (subst (λ (b : ℕ). Seconds3 b 128 159) same seconds_ed))

pub returns-in-240-clause-next : goal.returns-in-240-clause-next
returns-in-240-clause-next c = let same : 240 ≡ c.args.byte = omega arith in made c.following-in-240.result 3 144 191 c.args.byte c.following-in-240.ensures (omega arith) (omega arith) (omega arith) (first_of_four c.args.byte 144 191 (omega arith) (omega arith) (subst (λ (b : ℕ). Seconds4 b 144 191) same seconds_f0))

pub returns-in-244-clause-next : goal.returns-in-244-clause-next
returns-in-244-clause-next c = let same : 244 ≡ c.args.byte = omega arith in made c.following-in-244.result 3 128 143 c.args.byte c.following-in-244.ensures (omega arith) (omega arith) (omega arith) (first_of_four c.args.byte 128 143 (omega arith) (omega arith) (subst (λ (b : ℕ). Seconds4 b 128 143) same seconds_f4))

pub returns-in-194-to-223-clause-next : goal.returns-in-194-to-223-clause-next
returns-in-194-to-223-clause-next c = made c.following-in-194-to-223.result 1 128 191 c.args.byte c.following-in-194-to-223.ensures (omega arith) (omega arith) (omega arith) (first_of_two c.args.byte (omega arith) (omega arith))

pub returns-in-225-to-236-clause-next : goal.returns-in-225-to-236-clause-next
returns-in-225-to-236-clause-next c = made c.following-in-225-to-236.result 2 128 191 c.args.byte c.following-in-225-to-236.ensures (omega arith) (omega arith) (omega arith) (first_of_three c.args.byte 128 191 (omega arith) (omega arith) (seconds_rest c.args.byte (omega arith) (omega arith) (λ e. omega arith)))

pub returns-in-238-to-239-clause-next : goal.returns-in-238-to-239-clause-next
returns-in-238-to-239-clause-next c = made c.following-in-238-to-239.result 2 128 191 c.args.byte c.following-in-238-to-239.ensures (omega arith) (omega arith) (omega arith) (first_of_three c.args.byte 128 191 (omega arith) (omega arith) (seconds_rest c.args.byte (omega arith) (omega arith) (λ e. omega arith)))

pub returns-in-241-to-243-clause-next : goal.returns-in-241-to-243-clause-next
returns-in-241-to-243-clause-next c = made c.following-in-241-to-243.result 3 128 191 c.args.byte c.following-in-241-to-243.ensures (omega arith) (omega arith) (omega arith) (first_of_four c.args.byte 128 191 (omega arith) (omega arith) (seconds_f1 c.args.byte (omega arith) (omega arith)))
