-- Own writes as a history that can be undone.
use Rattle.std.proofs.Common.{◌≡◌, ◌∙◌, refl, sym, ap, subst, ℕ, Bool, true, false, cond, Option, Some, None, Result, Ok, Err, List, [], ◌∷◌, ◌++◌, length, drop, reverse, bytes_eq, inl, inr, IsSome, OnOk, OnErr}
use Rattle.std.proofs.lemmas.Bool.{true≢false}
use Rattle.std.proofs.lemmas.List.{reverse-append}
use Rattle.std.proofs.lemmas.Slice.Eq.{bytes_eq-Decides}
use Rattle.hc_base.specs.Entries.{entry_fits}
use Rattle.hc_core.specs.Account.{record_of}
use Rattle.hc_core.specs.Desk.{EachFits}
use Rattle.hc_base.specs.Lookup.{Among}
use Rattle.hc_core.specs.declared.cells.Write.{Write}
use Rattle.hc_txn.specs.Kept.{Known, find_known, own_of, now_at, with_known, with_now}
use Rattle.hc_txn.specs.Own.{Standing, changed, put_of, writes_of, IsRooted, IsHistory}
use Rattle.hc_txn.specs.Stores.{latest}
use Rattle.hc_txn.specs.declared.own.Past.{Past}
use Rattle.hc_txn.proofs.KnownKeys.{same_bytes, now_with_known, now_with_now}

-- functions that agree everywhere are one
pub everywhere : (f g : Standing) → ((q : List ℕ) → f q ≡ g q) → f ≡ g
everywhere f g h = λ i q. h q i

at_cond : (b : Bool) (x y z : Option (Option (List ℕ))) → (b ≡ true → x ≡ z) → (b ≡ false → y ≡ z) → cond b x y ≡ z
at_cond true x y z f g = f refl
at_cond false x y z f g = g refl

some_put : (r : Option (Option (List ℕ))) → IsSome r → Some (put_of r) ≡ r
some_put None h = absurd (true≢false (sym h))
some_put (Some r) h = refl

-- the newest write of a key is what stands there
pub latest_stands : (now : Standing) (ps : List Past) (q : List ℕ) → IsRooted now ps → latest (writes_of now ps) q ≡ now q
latest_stands now [] q rooted = sym (rooted q)
latest_stands now (p ∷ ps) q rooted =
    at_cond (bytes_eq p.key q) (Some (put_of (now p.key))) (latest (writes_of (changed now p.key p.older) ps) q) (now q)
    (λ same. some_put (now p.key) rooted.0 ∙ ap now ((bytes_eq-Decides p.key q).0 same))
    (λ other. latest_stands (changed now p.key p.older) ps q rooted.1 ∙ ap (λ (b : Bool). cond b p.older (now q)) other)

-- what was put and is undone stands no more, and what stood before stands again
pub undone : (now : Standing) (key : List ℕ) (rec : Option (Option (List ℕ))) → changed (changed now key rec) key (now key) ≡ now
undone now key rec = everywhere (changed (changed now key rec) key (now key)) now (λ q.
    at_cond (bytes_eq key q) (now key) (changed now key rec q) (now q)
    (λ same. ap now ((bytes_eq-Decides key q).0 same))
    (λ other. ap (λ (b : Bool). cond b rec (now q)) other))

stands : (now : Standing) (key : List ℕ) (rec : Option (Option (List ℕ))) → changed now key rec key ≡ rec
stands now key rec = ap (λ (b : Bool). cond b rec (now key)) (same_bytes key)

-- a write that is put is the newest
pub writes_put : (now : Standing) (key : List ℕ) (rec : Option (List ℕ)) (ps : List Past)
    → writes_of (changed now key (Some rec)) (record { key = key; older = now key } ∷ ps) ≡ record { key = key; rec = rec } ∷ writes_of now ps
writes_put now key rec ps = λ i. record { key = key; rec = put_of (stands now key (Some rec) i) } ∷ writes_of (undone now key (Some rec) i) ps

pub rooted_put : (now : Standing) (key : List ℕ) (rec : Option (List ℕ)) (ps : List Past) → IsRooted now ps
    → IsRooted (changed now key (Some rec)) (record { key = key; older = now key } ∷ ps)
rooted_put now key rec ps h = (
  subst (λ (r : Option (Option (List ℕ))). IsSome r) (sym (stands now key (Some rec))) refl,
  subst (λ (f : Standing). IsRooted f ps) (sym (undone now key (Some rec))) h,
)

-- the newest write of a history, which is kept with the newest last
pub newest_first : (older : List Past) (p : Past) → reverse (older ++ p ∷ []) ≡ p ∷ reverse older
newest_first older p = reverse-append older (p ∷ [])

-- a history stays one where what stands stays
pub same_history : (ks more : List Known) (ps : List Past) → now_at more ≡ now_at ks → IsHistory ks ps → IsHistory more ps
same_history ks more ps same h = record {
  rooted = subst (λ (f : Standing). IsRooted f ps) (sym same) h.rooted;
  fit = subst (λ (f : Standing). EachFits (writes_of f ps)) (sym same) h.fit;
}

-- what stands after a key was kept, or was not
pub same_standing : {T E : Type 0} (r : Result T E) (ks more : List Known) (new : Known) → new.now ≡ None → find_known new.key ks ≡ None
    → OnOk r (more ≡ with_known new ks) → OnErr r (more ≡ ks) → now_at more ≡ now_at ks
same_standing (Ok t) ks more new none absent ok err = ap now_at ok ∙ everywhere (now_at (with_known new ks)) (now_at ks) (λ q. now_with_known new ks q none absent)
same_standing (Err e) ks more new none absent ok err = ap now_at err

module _ (ks more : List Known) (ps : List Past) (key : List ℕ) (rec : Option (List ℕ)) (found : IsSome (find_known key ks)) (set : more ≡ with_now key (Some rec) ks) where
  now_put : now_at more ≡ changed (now_at ks) key (Some rec)
  now_put = ap now_at set ∙ everywhere (now_at (with_now key (Some rec) ks)) (changed (now_at ks) key (Some rec)) (λ q. now_with_now key (Some rec) ks q found)

  -- after a put
  pub own_put : writes_of (now_at more) (record { key = key; older = now_at ks key } ∷ ps) ≡ record { key = key; rec = rec } ∷ writes_of (now_at ks) ps
  own_put = ap (λ (f : Standing). writes_of f (record { key = key; older = now_at ks key } ∷ ps)) now_put ∙ writes_put (now_at ks) key rec ps

  pub history_put : entry_fits (length key) (length (record_of rec)) ≡ true → IsHistory ks ps → IsHistory more (record { key = key; older = now_at ks key } ∷ ps)
  history_put fits h = record {
    rooted = subst (λ (f : Standing). IsRooted f (record { key = key; older = now_at ks key } ∷ ps)) (sym now_put) (rooted_put (now_at ks) key rec ps h.rooted);
    fit = subst EachFits (sym own_put) fit_each;
  }
    where
      fit_each : EachFits (record { key = key; rec = rec } ∷ writes_of (now_at ks) ps)
      fit_each w (inl e) = subst (λ (x : Write). entry_fits (length x.key) (length (record_of x.rec)) ≡ true) (sym e) fits
      fit_each w (inr a) = h.fit w a

module _ (ks more : List Known) (p : Past) (ps : List Past) (h : IsHistory ks (p ∷ ps)) (set : more ≡ with_now p.key p.older ks) where
  -- the newest write's key is known
  pub newest_found : IsSome (find_known p.key ks)
  newest_found = known_of (find_known p.key ks) refl
    where
      known_of : (f : Option Known) → find_known p.key ks ≡ f → IsSome (find_known p.key ks)
      known_of None e = absurd (true≢false (sym (subst (λ (x : Option Known). IsSome (own_of x)) e h.rooted.0)))
      known_of (Some k) e = subst (λ (x : Option Known). IsSome x) (sym e) refl

  now_undone : now_at more ≡ changed (now_at ks) p.key p.older
  now_undone = ap now_at set ∙ everywhere (now_at (with_now p.key p.older ks)) (changed (now_at ks) p.key p.older) (λ q. now_with_now p.key p.older ks q newest_found)

  -- after the newest write is undone
  pub own_undone : writes_of (now_at more) ps ≡ drop 1 (writes_of (now_at ks) (p ∷ ps))
  own_undone = ap (λ (f : Standing). writes_of f ps) now_undone

  pub history_undone : IsHistory more ps
  history_undone = record {
    rooted = subst (λ (f : Standing). IsRooted f ps) (sym now_undone) h.rooted.1;
    fit = λ w a. h.fit w (inr (subst (λ (ws : List Write). Among w ws) own_undone a));
  }
