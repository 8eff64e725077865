-- What is kept of an open transaction matches it after each change of both.
use Rattle.std.proofs.Common.{◌≡◌, ◌≢◌, ℕ, List, [], ◌∷◌, ◌++◌, ◌⊎◌, ◌↔◌, refl, sym, subst, inl, inr, not, None, Some}
use Rattle.std.specs.Str.{bytes_eq}
use Rattle.hc_range.specs.declared.range.Range.{Range}
use Rattle.hc_range.specs.Ranges.{InAny, InRange}
use Rattle.hc_reads.specs.Gathered.{HaveSameKeys}
use Rattle.hc_core.specs.Account.{Txn, PartRead, Refusal, HasRead, WhenOpen, after_read, after_put, after_check, after_decide, after_reserve, after_unput, weight_of, without}
use Rattle.hc_core.specs.Calls.{AreShortKeys}
use Rattle.hc_core.specs.Running.{HaveSameWrites, Matches}
use Rattle.hc_core.specs.WriteSet.{HasAllOf, Held}
use Rattle.hc_core.specs.declared.cells.Write.{Write}
use Rattle.hc_core.specs.declared.cells.Part.{Part}
use Rattle.hc_core.specs.declared.outcome.Outcome.TheVariants.{Done, Cells, Decided}
use Rattle.hc_core.specs.declared.running.Running.{Running}
use Rattle.hc_core.proofs.Elements.{among_push, among_filter}

-- a key was read where it was read before or lies in the new part
pub read_more : (t : Txn) (part : Range) (found : Part) (key : List ℕ)
    → HasRead (after_read part (Cells found) t) key ↔ (HasRead t key ⊎ InRange part key)
read_more t part found key = (
  λ h. elim (h.1) [ inl e ↦ inr (subst (λ (read : PartRead). InRange read.part key) e h.2) | inr a ↦ inl (h.0, a, h.2) ],
  λ h. elim h [ inl r ↦ (r.0, inr (r.1), r.2) | inr x ↦ (record { part = part; cells = found.cells }, inl refl, x) ],
)

-- what is kept, with a log of reads grown by a part, matches the transaction after its read
pub matches_read : (r : Running) (log : List Range) (part : Range) (found : Part) (t : Txn)
    → ((key : List ℕ) → InAny log key ↔ (InAny r.reads key ⊎ InRange part key)) → Matches r t
    → Matches (record r { reads = log }) (after_read part (Cells found) t)
matches_read r log part found t grown h = record {
  id = h.id;
  unweighed = h.unweighed;
  ord = h.ord;
  snapshot = h.snapshot;
  proposed = h.proposed;
  place = h.place;
  reads = λ key. let more = read_more t part found key in let old = h.reads key in let new = grown key in (
    λ a. more.1 (elim (new.0 a) [ inl x ↦ inl (old.0 x) | inr y ↦ inr y ]),
    λ a. new.1 (elim (more.0 a) [ inl x ↦ inl (old.1 x) | inr y ↦ inr y ]),
  );
  checked = h.checked;
  writes = h.writes;
  reserved = h.reserved;
  short = h.short;
}

-- what is kept, with the same keys read, matches the transaction still
pub matches_same : (r : Running) (log : List Range) (t : Txn) → HaveSameKeys r.reads log → Matches r t → Matches (record r { reads = log }) t
matches_same r log t same h = record {
  id = h.id;
  unweighed = h.unweighed;
  ord = h.ord;
  snapshot = h.snapshot;
  proposed = h.proposed;
  place = h.place;
  reads = λ key. (λ a. (h.reads key).0 ((same key).1 a), λ a. (same key).0 ((h.reads key).1 a));
  checked = h.checked;
  writes = h.writes;
  reserved = h.reserved;
  short = h.short;
}

pub open_same : (r : Running) (log : List Range) (ts : List Txn) → HaveSameKeys r.reads log → WhenOpen ts (Matches r) → WhenOpen ts (Matches (record r { reads = log }))
open_same r log [] same h = h
open_same r log (t ∷ ts) same h = (h.0, matches_same r log t same h.1)

-- what is kept, with a log of checks grown by a part, matches the transaction after its check
pub matches_checked : (r : Running) (log : List Range) (part : Range) (t : Txn)
    → ((key : List ℕ) → InAny log key ↔ (InAny r.checked key ⊎ InRange part key)) → Matches r t
    → Matches (record r { checked = log }) (after_check part Done t)
matches_checked r log part t grown h = record {
  id = h.id;
  unweighed = h.unweighed;
  ord = h.ord;
  snapshot = h.snapshot;
  proposed = h.proposed;
  place = h.place;
  reads = h.reads;
  checked = λ unweighed key. let old = h.checked unweighed key in let new = grown key in (
    λ a. elim (new.0 a) [ inl x ↦ inr (old.0 x) | inr y ↦ inl y ],
    λ a. new.1 (elim a [ inl y ↦ inr y | inr x ↦ inl (old.1 x) ]),
  );
  writes = h.writes;
  reserved = h.reserved;
  short = h.short;
}

-- another proposal, or none, for which nothing was checked
pub matches_proposal : (r new : Running) (number : ℕ) (t : Txn) → new ≡ record r { proposed = number; checked = [] } → Matches r t
    → Matches new (record t { proposed = number; checked = [] })
matches_proposal r new number t is h =
    subst (λ q. Matches q (record t { proposed = number; checked = [] })) (sym is)
    (record {
      id = h.id;
      unweighed = h.unweighed;
      ord = h.ord;
      snapshot = h.snapshot;
      proposed = refl;
      place = h.place;
      reads = h.reads;
      checked = λ unweighed key. (λ a. a, λ a. a);
      writes = h.writes;
      reserved = h.reserved;
      short = h.short;
    })

-- other writes, and what is in the write set changed with them; what was put counts for nothing here
matches_writes : (r : Running) (kept : Held) (t : Txn) (write_set puts : List Write)
    → (t.place ≡ 0 → HaveSameWrites kept.put write_set) → HasAllOf r.writes.all kept.all → Matches r t
    → Matches (record r { writes = kept }) (record t { write_set = write_set; puts = puts })
matches_writes r kept t write_set puts same all h = record {
  id = h.id;
  unweighed = h.unweighed;
  ord = h.ord;
  snapshot = h.snapshot;
  proposed = h.proposed;
  place = h.place;
  reads = h.reads;
  checked = h.checked;
  writes = same;
  reserved = λ undecided w there. all w (h.reserved undecided w there);
  short = h.short;
}

-- what is kept, with a write more, matches the transaction after its put
pub matches_put : (r : Running) (kept : Held) (w : Write) (t : Txn) → kept.put ≡ r.writes.put ++ w ∷ [] → HasAllOf r.writes.all kept.all → Matches r t
    → Matches (record r { writes = kept }) (after_put w.key w.rec Done t)
matches_put r kept w t e all h = matches_writes r kept t (w ∷ t.write_set) (w ∷ t.puts)
    (λ undecided x. let old = h.writes undecided x in let push = among_push x w r.writes.put in
    rw e (
      (λ a. elim (push.0 a) [ inl s ↦ inl s | inr b ↦ inr (old.0 b) ]),
      λ a. push.1 (elim a [ inl s ↦ inl s | inr b ↦ inr (old.1 b) ]),
    ))
    all h

-- what is kept, with a commit number, matches the transaction after its decision
pub matches_decided : (r : Running) (kept : Held) (number : ℕ) (t : Txn) → number ≢ 0 → Matches r t
    → Matches (record r { writes = kept; place = number }) (after_decide (Decided (record { 0 = number })) t)
matches_decided r kept number t some h = record {
  id = h.id;
  unweighed = h.unweighed;
  ord = h.ord;
  snapshot = h.snapshot;
  proposed = h.proposed;
  place = refl;
  reads = h.reads;
  checked = h.checked;
  writes = λ undecided. absurd (some undecided);
  reserved = λ undecided. absurd (some undecided);
  short = h.short;
}

-- what is kept, without the writes of a key, matches the transaction after the key is taken out
pub matches_unput : (r : Running) (kept : Held) (key : List ℕ) (t : Txn) → HaveSameWrites kept.put (without key r.writes.put) → HasAllOf r.writes.all kept.all
    → Matches r t → Matches (record r { writes = kept }) (after_unput key Done t)
matches_unput r kept key t left all h = matches_writes r kept t (without key t.write_set) t.puts
    (λ undecided x. let old = h.writes undecided x in
    let here = among_filter (λ (w : Write). not (bytes_eq w.key key)) x r.writes.put in
    let there = among_filter (λ (w : Write). not (bytes_eq w.key key)) x t.write_set in (
      (λ a. let b = here.0 ((left x).0 a) in there.1 (old.0 b.0, b.1)),
      λ a. let b = there.0 a in (left x).1 (here.1 (old.1 b.0, b.1)),
    ))
    all h

-- refusals count for nothing here
pub matches_refused : (r : Running) (t : Txn) (refusals : List Refusal) → Matches r t → Matches r (record t { refusals = refusals })
matches_refused r t refusals h = record {
  id = h.id;
  unweighed = h.unweighed;
  ord = h.ord;
  snapshot = h.snapshot;
  proposed = h.proposed;
  place = h.place;
  reads = h.reads;
  checked = h.checked;
  writes = h.writes;
  reserved = h.reserved;
  short = h.short;
}

-- nor do checks, nor what a check found unchanged, once there is room for writes
pub matches_unkept : (r : Running) (part : Range) (t : Txn) → t.weight ≢ None → Matches r t → Matches r (after_check part Done t)
matches_unkept r part t weighed h = record {
  id = h.id;
  unweighed = h.unweighed;
  ord = h.ord;
  snapshot = h.snapshot;
  proposed = h.proposed;
  place = h.place;
  reads = h.reads;
  checked = λ unweighed. absurd (weighed unweighed);
  writes = h.writes;
  reserved = h.reserved;
  short = h.short;
}

-- room for writes, where none is put
pub matches_room : (r : Running) (kept : Held) (writes : List Write) (t : Txn) → kept.put ≡ [] → kept.all ≡ writes → t.id ≢ 0 → t.write_set ≡ []
    → AreShortKeys writes → Matches r t → Matches (record r { writes = kept }) (after_reserve writes t)
matches_room r kept writes t put all drew none short h = record {
  id = h.id;
  unweighed = λ undrawn. absurd (drew undrawn);
  ord = h.ord;
  snapshot = h.snapshot;
  proposed = h.proposed;
  place = h.place;
  reads = h.reads;
  checked = λ unweighed. absurd (let e : Some (weight_of writes) ≡ None = unweighed in cc);
  writes = λ undecided w. rw (put, none) (λ a. a, λ a. a);
  reserved = λ undecided w there. rw all there;
  short = short;
}
