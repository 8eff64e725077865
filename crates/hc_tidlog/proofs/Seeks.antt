-- One id found drawn after another.
use Rattle.std.proofs.Common.{◌≡◌, ◌∙◌, refl, sym, ap, subst, ⊎_elim, inl, inr, ℕ, ◌+◌, ◌<◌, List, [], ◌∷◌, ◌++◌, append_assoc, true, false, arith}
use Rattle.hc_base.specs.declared.tid_word.TidWord.{TidWord}
use Rattle.hc_rows.specs.declared.layout.Layout.{Layout}
use Rattle.hc_rows.specs.Places.{tid_at}
use Rattle.hc_rule.specs.declared.view.View.{View}
use Rattle.hc_rule.specs.declared.view.Found.{Found}
use Rattle.hc_rule.specs.declared.view.SeenWord.{SeenWord}
use Rattle.atomic_table.specs.Table.{Me}
use Rattle.hc_rule.specs.Kinds.TidWord.{with_seen, MayDraw, DrewTid}
use Rattle.hc_tidlog.specs.Looking.{empty_at}
use Rattle.hc_tidlog.proofs.Looks.{empty_both}
use Rattle.hc_tidlog.specs.Seeking.{with_words, IsFound, Reached, LookedAt, CanDraw, FoundDrawn}

pub reached_none : (y : Layout) (id : ℕ) (v : View) → Reached y id id v v
reached_none y id v = record { more = []; empty = []; is = refl; found = inl refl }

found_front : (id : ℕ) (xs ys : List SeenWord) → IsFound id xs → IsFound id (xs ++ ys)
found_front id [] ys found = absurd found.1
found_front id (z ∷ xs) ys found =
    ⊎_elim
    (λ (is : found.0 ≡ z). (found.0, inl is, found.2))
    (λ later. let f = found_front id xs ys (found.0, later, found.2) in (f.0, inr f.1, f.2))
    found.1

found_back : (id : ℕ) (xs ys : List SeenWord) → IsFound id ys → IsFound id (xs ++ ys)
found_back id [] ys found = found
found_back id (z ∷ xs) ys found = let f = found_back id xs ys found in (f.0, inr f.1, f.2)

-- one word was noted
pub reached_seen : (y : Layout) (from id : ℕ) (form : TidWord) (v w : View) → w ≡ with_seen id form v → Reached y from id v w
reached_seen y from id form v w is = record { more = record { tid = record { 0 = id }; word = form; seen = v.seen } ∷ []; empty = []; is = is; found = inr (record { tid = record { 0 = id }; word = form; seen = v.seen }, inl refl, refl) }

pub reached_looked : (y : Layout) (from id : ℕ) (v w : View) → LookedAt y id v true w → Reached y from id v w
reached_looked y from id v w looked = reached_seen y from id looked.0 v w looked.2

-- and where a word was found empty the search is where it was
pub reached_empty : (y : Layout) (from id : ℕ) (v w : View) → LookedAt y id v false w → Reached y from from v w
reached_empty y from id v w looked = record { more = []; empty = id ∷ []; is = looked; found = inl refl }

-- a search goes on
pub reached_both : (y : Layout) (from low id : ℕ) (v w u : View) → Reached y from low v w → Reached y low id w u → Reached y from id v u
reached_both y from low id v w u first second = record {
  more = second.more ++ first.more;
  empty = second.empty ++ first.empty;
  is =
      second.is
      ∙ (ap (λ x. with_words y second.more second.empty x) first.is
      ∙ (ap (λ (xs : List SeenWord). record v { words = xs; found = empty_at (tid_at y) second.empty ++ (empty_at (tid_at y) first.empty ++ v.found) }) (sym (append_assoc second.more first.more v.words))
      ∙ ap (λ (fs : List Found). record v { words = (second.more ++ first.more) ++ v.words; found = fs }) (empty_both (tid_at y) second.empty first.empty v.found)));
  found =
      ⊎_elim
      (λ (stays : id ≡ low). ⊎_elim (λ (same : low ≡ from). inl (stays ∙ same)) (λ (found : IsFound low first.more). let f = found_back low second.more first.more found in inr (f.0, f.1, f.2 ∙ sym stays)) first.found)
      (λ (found : IsFound id second.more). inr (found_front id second.more first.more found))
      second.found;
}

-- the id after one that was reached may be drawn
pub may_draw : (y : Layout) (conn low ord : ℕ) (v w : View) → CanDraw ord v → Reached y 0 low v w → MayDraw (record { conn = conn; id = low + 1; ord = ord }) w
may_draw y conn low ord v w can reached = subst (λ x. MayDraw (record { conn = conn; id = low + 1; ord = ord }) x) (sym reached.is) (record {
  snapshot = can.snapshot;
  reads = can.reads;
  undrawn = can.undrawn;
  ord = can.ord;
  above = can.above;
  follows =
      ⊎_elim
      (λ (none : low ≡ 0). inl (omega (arith, none)))
      (λ (found : IsFound low reached.more). let f = found_front low reached.more v.words found in inr (f.0, f.1, omega (arith, f.2)))
      reached.found;
})

-- what a lost draw tells
pub lost_draw : (y : Layout) (conn low ord : ℕ) (w : View) (after : Me Unit View) → DrewTid (record { conn = conn; id = low + 1; ord = ord }) w false after → Reached y low (low + 1) w after.0
lost_draw y conn low ord w after told = reached_seen y low (low + 1) told.0 w after.0 (ap (λ (m : Me Unit View). m.0) told.3)

-- the last id was found drawn
pub found_last : (y : Layout) (last low : ℕ) (v w : View) → 0 < last → low ≡ last → Reached y 0 low v w → FoundDrawn y last v w
found_last y last low v w some is reached =
    (reached.more, reached.empty, reached.is, ⊎_elim (λ (none : low ≡ 0). absurd (omega (arith, some, is, none))) (λ (found : IsFound low reached.more). subst (λ n. IsFound n reached.more) is found) reached.found)
