-- The pages that are written out by hand are pages.
use Rattle.std.proofs.Common.{◌≡◌, ◌<◌, ◌^◌, ℕ, List, [], ◌∷◌, refl, ◌∙◌, arith}
use Rattle.std.specs.List.{All, AllByRecursion}
use Rattle.std.proofs.lemmas.List.Elements.{All-from_recursion}
use Rattle.hc_range.specs.Order.{is_below, IsBelow}
use Rattle.hc_base.specs.Content.{IsContent, IsEntryOf, IsWithin, keys}
use Rattle.hc_base.specs.Layout.{IsPage, layout}
use Rattle.hc_engine_tests.specs.ByHand.{leaf, leaf_words, inner, inner_words}

-- each byte of a byte string is one
bytes : (bs : List ℕ) → AllByRecursion (λ byte. byte < 2 ^ 8) bs → All (λ byte. byte < 2 ^ 8) bs
bytes bs each = All-from_recursion (λ byte. byte < 2 ^ 8) bs each

pub leaf_content : IsContent leaf
unfolding is_below
leaf_content = record {
  level = omega arith;
  own = (omega arith, omega arith);
  right = (omega arith, omega arith);
  low = (omega arith, bytes (98 ∷ []) (omega arith, tt));
  high = (omega arith, bytes (109 ∷ []) (omega arith, tt));
  mark = refl;
  entries = All-from_recursion (IsEntryOf 0) leaf.entries (((omega arith, (omega arith, bytes (109 ∷ 101 ∷ 111 ∷ 119 ∷ []) (omega arith, (omega arith, (omega arith, (omega arith, tt))))), ((omega arith, omega arith), omega arith)), (omega arith, bytes (99 ∷ 97 ∷ 116 ∷ []) (omega arith, (omega arith, (omega arith, tt))))), (((omega arith, tt, tt), (omega arith, bytes (100 ∷ 111 ∷ 103 ∷ []) (omega arith, (omega arith, (omega arith, tt))))), tt));
  ascending = (All-from_recursion (λ other. IsBelow (99 ∷ 97 ∷ 116 ∷ []) other) ((100 ∷ 111 ∷ 103 ∷ []) ∷ []) (refl, tt), (All-from_recursion (λ other. IsBelow (100 ∷ 111 ∷ 103 ∷ []) other) [] tt, tt));
  within = All-from_recursion (IsWithin leaf.low leaf.high) (keys leaf.entries) ((refl, refl), ((refl, refl), tt));
  begins = tt;
}

pub leaf_is : (words : List ℕ) → words ≡ leaf_words → IsPage words leaf
leaf_is words same = record { content = leaf_content; fits = omega arith; is = same ∙ (let z : leaf_words ≡ layout leaf = refl in z) }

pub inner_content : IsContent inner
unfolding is_below
inner_content = record {
  level = omega arith;
  own = (omega arith, omega arith);
  right = tt;
  low = (omega arith, bytes [] tt);
  high = tt;
  mark = refl;
  entries = All-from_recursion (IsEntryOf 1) inner.entries (((omega arith, omega arith), (omega arith, bytes [] tt)), (((omega arith, omega arith), (omega arith, bytes (97 ∷ 98 ∷ 99 ∷ 100 ∷ 101 ∷ 102 ∷ 103 ∷ 104 ∷ 105 ∷ []) (omega arith, (omega arith, (omega arith, (omega arith, (omega arith, (omega arith, (omega arith, (omega arith, (omega arith, tt))))))))))), (((omega arith, omega arith), (omega arith, bytes (107 ∷ []) (omega arith, tt))), tt)));
  ascending = (All-from_recursion (λ other. IsBelow [] other) ((97 ∷ 98 ∷ 99 ∷ 100 ∷ 101 ∷ 102 ∷ 103 ∷ 104 ∷ 105 ∷ []) ∷ (107 ∷ []) ∷ []) (refl, (refl, tt)), (All-from_recursion (λ other. IsBelow (97 ∷ 98 ∷ 99 ∷ 100 ∷ 101 ∷ 102 ∷ 103 ∷ 104 ∷ 105 ∷ []) other) ((107 ∷ []) ∷ []) (refl, tt), (All-from_recursion (λ other. IsBelow (107 ∷ []) other) [] tt, tt)));
  within = All-from_recursion (IsWithin inner.low inner.high) (keys inner.entries) ((refl, tt), ((refl, tt), ((refl, tt), tt)));
  begins = refl;
}

pub inner_is : (words : List ℕ) → words ≡ inner_words → IsPage words inner
inner_is words same = record { content = inner_content; fits = omega arith; is = same ∙ (let z : inner_words ≡ layout inner = refl in z) }
