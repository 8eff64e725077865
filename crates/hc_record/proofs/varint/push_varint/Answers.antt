use Rattle.std.proofs.Common.{◌∙◌, ◌-◌, ◌^◌, ℕ, ap, arith, ◌/◌, ◌%◌, [], ◌∷◌, ◌++◌, refl}
use Rattle.std.proofs.lemmas.Bool.{lt-ltb, le-ltb}
use Rattle.hc_record.specs.Varint.{varint, varint_len, marked}
use Rattle.hc_record.proofs.Bounds.{written}
use Rattle.hc_record.proofs.Numbers.{varint_len_is}
use Rattle.hc_record.proofs.Steps.{on_ok}
use Rattle.hc_record.proofs.varint.push_varint.Goals as goal

pub overflow_sub-varint_len : goal.overflow_sub-varint_len
overflow_sub-varint_len c = rw c.varint_len.ensures (varint_len_is c.args.n).0

pub push_marked-requires : goal.push_marked-requires
push_marked-requires c = omega (arith, c.varint_len.ensures, (varint_len_is c.args.n).1)

pub returns-in_ok-push_marked : goal.returns-in_ok-push_marked
unfolding varint
returns-in_ok-push_marked c =
    on_ok c.extend_from_slice.result c.extend_from_slice.new.self.items (c.push_marked.new.out.items ++ c.args.n % 2 ^ 7 ∷ []) c.push_marked.new.out.items (c.args.out.now.items ++ varint c.args.n) c.extend_from_slice.ensures.items
    (written c.args.out.now.items c.push_marked.new.out.items (c.push_marked.new.out.items ++ c.args.n % 2 ^ 7 ∷ []) (marked (varint_len c.args.n - 1) (c.args.n / 2 ^ 7)) (c.args.n % 2 ^ 7 ∷ []) (varint c.args.n)
    (c.in_ok-push_marked.ensures ∙ ap (λ (k : ℕ). c.args.out.now.items ++ marked (k - 1) (c.args.n / 2 ^ 7)) c.varint_len.ensures) refl (rw (lt-ltb c.args.n (2 ^ 56) c.if-n.true) refl))

pub returns-in_ok-push_marked-2 : goal.returns-in_ok-push_marked-2
unfolding varint
returns-in_ok-push_marked-2 c =
    on_ok c.extend_from_slice-else-n.result c.extend_from_slice-else-n.new.self.items (c.push_marked-else-n.new.out.items ++ c.args.n % 2 ^ 8 ∷ []) c.push_marked-else-n.new.out.items (c.args.out.now.items ++ varint c.args.n) c.extend_from_slice-else-n.ensures.items
    (written c.args.out.now.items c.push_marked-else-n.new.out.items (c.push_marked-else-n.new.out.items ++ c.args.n % 2 ^ 8 ∷ []) (marked 8 (c.args.n / 2 ^ 8)) (c.args.n % 2 ^ 8 ∷ []) (varint c.args.n)
    c.in_ok-push_marked-2.ensures refl (rw (le-ltb c.args.n (2 ^ 56) c.if-n.false) refl))
