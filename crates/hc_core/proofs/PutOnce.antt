-- Write sets in which each key is once: one write more at the end, and one taken out, whose place the last one takes.
use Rattle.std.proofs.Common.{◌≡◌, ◌∙◌, ◌↔◌, inl, inr, refl, sym, ap, ℕ, zero, suc, ◌≤◌, true, false, not, List, [], ◌∷◌, ◌++◌, length, get_or, arith}
use Rattle.std.specs.Prelude.{slice_set}
use Rattle.std.specs.Str.{bytes_eq}
use Rattle.std.proofs.lemmas.Bool.{false_from_ne_true, or_left, or_right}
use Rattle.std.proofs.lemmas.List.{length-append}
use Rattle.std.proofs.lemmas.Slice.Eq.{bytes_eq-Decides}
use Rattle.hc_core.specs.Account.{without}
use Rattle.hc_base.specs.Lookup.{Among}
use Rattle.hc_core.specs.Running.{HaveSameWrites, holds_key}
use Rattle.hc_core.specs.Sound.{IsAbsent, HasEachOnce}
use Rattle.hc_core.specs.declared.cells.Write.{Write}
use Rattle.hc_core.proofs.Elements.{among_push, among_filter}
use Rattle.hc_core.proofs.Swapping.{among_at}

-- a key is absent from writes with one more at the end
absent_push : (key : List ℕ) (ws : List Write) (w : Write) → IsAbsent key ws → (w.key ≡ key → ⊥) → IsAbsent key (ws ++ w ∷ [])
absent_push key [] w none differ = (differ, tt)
absent_push key (first ∷ ws) w none differ = (none.0, absent_push key ws w none.1 differ)

-- each key is once where a key comes that was not there
pub once_push : (ws : List Write) (w : Write) → HasEachOnce ws → holds_key w.key ws ≡ false → HasEachOnce (ws ++ w ∷ [])
once_push [] w once new = (tt, tt)
once_push (first ∷ ws) w once new = (
  absent_push first.key ws w once.0
      (λ same. let yes = or_left (bytes_eq first.key w.key) (holds_key w.key ws) ((bytes_eq-Decides first.key w.key).1 (sym same)) in
      let e : true ≡ false = sym yes ∙ new in cc),
  once_push ws w once.1 (false_from_ne_true (holds_key w.key ws)
      (λ held. let e : true ≡ false = sym (or_right (bytes_eq first.key w.key) (holds_key w.key ws) held) ∙ new in cc)),
)

-- what is absent is none of the writes
pub not_there : (key : List ℕ) (ws : List Write) (w : Write) → IsAbsent key ws → Among w ws → w.key ≡ key → ⊥
not_there key [] w none there same = there
not_there key (first ∷ ws) w none there same = elim there [
  | inl here ↦ none.0 (sym (ap (λ (v : Write). v.key) here) ∙ same)
  | inr rest ↦ not_there key ws w none.1 rest same
]

-- writes with the last one in the place of another
pub record TakenOut (key : List ℕ) (before after : List Write) : Type 0 where
  pub once : HasEachOnce after
  pub exact : (w : Write) → Among w after ↔ (Among w before × (w.key ≡ key → ⊥))

-- what is absent from all is absent from those but the last
absent_front : (key : List ℕ) (ws : List Write) (last : Write) → IsAbsent key (ws ++ last ∷ []) → IsAbsent key ws
absent_front key [] last none = tt
absent_front key (w ∷ ws) last none = (none.0, absent_front key ws last none.1)

-- and the last one has another key
last_differs : (key : List ℕ) (ws : List Write) (last : Write) → IsAbsent key (ws ++ last ∷ []) → last.key ≡ key → ⊥
last_differs key ws last none same = not_there key (ws ++ last ∷ []) last none ((among_push last last ws).1 (inl refl)) same

-- a key that is absent is so where the last write takes the place of another
absent_moved : (key : List ℕ) (ws : List Write) (last : Write) (i : ℕ) → IsAbsent key (ws ++ last ∷ []) → IsAbsent key (slice_set ws i last)
absent_moved key [] last i none = tt
absent_moved key (w ∷ ws) last zero none = (last_differs key ws last none.1, absent_front key ws last none.1)
absent_moved key (w ∷ ws) last (suc i) none = (none.0, absent_moved key ws last i none.1)

-- where each key is once, so it is where the last write comes first
once_moved : (ws : List Write) (last : Write) → HasEachOnce (ws ++ last ∷ []) → HasEachOnce (last ∷ ws)
once_moved [] last once = (tt, tt)
once_moved (w ∷ ws) last once =
    let rest = once_moved ws last once.1 in
    ((λ same. last_differs w.key ws last once.0 (sym same), rest.0), (absent_front w.key ws last once.0, rest.1))

-- the write at a place is taken out, and the last one takes its place
pub taken_out : (ws : List Write) (last : Write) (i : ℕ) (key : List ℕ) → i ≤ length ws → HasEachOnce (ws ++ last ∷ [])
    → ((d : Write) → (get_or (ws ++ last ∷ []) i d).key ≡ key) → TakenOut key (ws ++ last ∷ []) (slice_set ws i last)
taken_out [] last zero key within once is = record {
  once = tt;
  exact = λ w. (
    λ there. absurd there,
    λ h. elim (h.0) [ inl same ↦ absurd (h.1 (ap (λ (v : Write). v.key) same ∙ is last)) | inr none ↦ absurd none ],
  );
}
taken_out [] last (suc i) key within once is = absurd (omega (arith, within))
taken_out (first ∷ ws) last zero key within once is = record {
  once = once_moved ws last once.1;
  exact = λ w. (
    λ there.
        let rest : Among w (ws ++ last ∷ []) = (among_push w last ws).1 there in
        (inr rest, λ same. not_there first.key (ws ++ last ∷ []) w once.0 rest (same ∙ sym (is first))),
    λ h. elim (h.0) [ inl same ↦ absurd (h.1 (ap (λ (v : Write). v.key) same ∙ is first)) | inr rest ↦ (among_push w last ws).0 rest ],
  );
}
taken_out (first ∷ ws) last (suc i) key within once is =
    let rest = taken_out ws last i key (omega (arith, within)) once.1 is in
    let there : Among (get_or (ws ++ last ∷ []) i first) (ws ++ last ∷ []) =
    among_at (ws ++ last ∷ []) i first (rw (length-append ws (last ∷ [])) (omega (arith, within))) in
    record {
      once = (absent_moved first.key ws last i once.0, rest.once);
      exact = λ w. (
        λ h. elim h [
          | inl same ↦ (
            inl same,
            λ of_key. not_there first.key (ws ++ last ∷ []) (get_or (ws ++ last ∷ []) i first) once.0 there
                (is first ∙ sym of_key ∙ ap (λ (v : Write). v.key) same),
          )
          | inr later ↦ let r = (rest.exact w).0 later in (inr r.0, r.1)
        ],
        λ h. elim (h.0) [ inl same ↦ inl same | inr later ↦ inr ((rest.exact w).1 (later, h.1)) ],
      );
    }

-- the same writes are what is left without the key
pub left_without : (key : List ℕ) (before after : List Write) → TakenOut key before after → HaveSameWrites after (without key before)
left_without key before after out w =
    let left = among_filter (λ (v : Write). not (bytes_eq v.key key)) w before in (
      λ there. let h = (out.exact w).0 there in
          left.1 (h.0, ap not (false_from_ne_true (bytes_eq w.key key) (λ yes. h.1 ((bytes_eq-Decides w.key key).0 yes)))),
      λ there. let h = left.0 there in
          (out.exact w).1 (h.0, λ same. let e : false ≡ true = sym (ap not ((bytes_eq-Decides w.key key).1 same)) ∙ h.1 in cc),
    )
