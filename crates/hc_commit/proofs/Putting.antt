-- Writes that are put one after another, and taken out in the same order.
use Rattle.std.proofs.Common.{◌≡◌, ◌≢◌, ◌∙◌, refl, sym, ap, subst, ℕ, suc, ◌+◌, ◌<◌, ◌≤◌, Bool, false, true, cond, not, Option, None, List, [], ◌∷◌, ◌++◌, append_assoc, reverse, bytes_eq, length, get_or, take, drop, inl, inr, ◌⊎◌, arith}
use Rattle.std.proofs.Math.Seq.{split_at}
use Rattle.std.proofs.lemmas.List.{length-take-le, take-append-drop, take_more}
use Rattle.std.proofs.lemmas.Bool.{true≢false}
use Rattle.std.proofs.lemmas.List.{append-nil, reverse-append}
use Rattle.std.proofs.lemmas.Slice.Eq.{bytes_eq-Decides}
use Rattle.hc_base.specs.Lookup.{Among}
use Rattle.hc_range.specs.Order.{is_below}
use Rattle.hc_range.proofs.ByteOrder.{below_irrefl}
use Rattle.hc_core.specs.Account.{Txn, WhenOpen, after_put, after_unput, txns, without}
use Rattle.hc_core.specs.Desk.{AreAscendingWrites, IsBelowEachWrite, MayPutNow, MayUnputNow}
use Rattle.hc_core.specs.Diary.{entry_of}
use Rattle.hc_core.specs.declared.account.Entry.{Entry}
use Rattle.hc_core.specs.declared.cells.Write.{Write}
use Rattle.hc_core.specs.declared.event.Event.TheVariants.{Put, Unput}
use Rattle.hc_core.specs.declared.outcome.Met.{Met as MetRecord}
use Rattle.hc_core.specs.declared.outcome.Outcome.{Outcome}
use Rattle.hc_core.specs.declared.outcome.Outcome.TheVariants.{Done, Met}
use Rattle.hc_commit.specs.Giving.{HasGivenUpPuts, HasMetAt}
use Rattle.hc_commit.specs.Entries.{with_puts, with_unputs}
use Rattle.hc_commit.specs.Stages.{HasNonePut, HasPut, MayPutAll}
use Rattle.hc_commit.proofs.Growing.{puts_more, unputs_more, when_changed, when_open}

module _ {A : Type 0} where
  pub among_append : (x : A) (xs ys : List A) → Among x (xs ++ ys) → Among x xs ⊎ Among x ys
  among_append x [] ys h = inr h
  among_append x (y ∷ xs) ys (inl e) = inl (inl e)
  among_append x (y ∷ xs) ys (inr a) = elim (among_append x xs ys a) [ inl b ↦ inl (inr b) | inr b ↦ inr b ]

  pub among_left : (x : A) (xs ys : List A) → Among x xs → Among x (xs ++ ys)
  among_left x [] ys h = absurd h
  among_left x (y ∷ xs) ys (inl e) = inl e
  among_left x (y ∷ xs) ys (inr a) = inr (among_left x xs ys a)

  pub among_right : (x : A) (xs ys : List A) → Among x ys → Among x (xs ++ ys)
  among_right x [] ys h = h
  among_right x (y ∷ xs) ys h = inr (among_right x xs ys h)

  pub reverse_first : (x : A) (xs : List A) → reverse (x ∷ xs) ≡ reverse xs ++ x ∷ []
  reverse_first x xs = reverse-append (x ∷ []) xs

  pub reverse_last : (x : A) (xs : List A) → reverse (xs ++ x ∷ []) ≡ x ∷ reverse xs
  reverse_last x xs = reverse-append xs (x ∷ [])

  -- the same elements in the other order
  pub among_reversed : (x : A) (xs : List A) → Among x xs → Among x (reverse xs)
  among_reversed x [] h = absurd h
  among_reversed x (y ∷ xs) (inl e) = subst (λ (zs : List A). Among x zs) (sym (reverse_first y xs)) (among_right x (reverse xs) (y ∷ []) (inl e))
  among_reversed x (y ∷ xs) (inr a) =
      subst (λ (zs : List A). Among x zs) (sym (reverse_first y xs)) (among_left x (reverse xs) (y ∷ []) (among_reversed x xs a))

  pub reversed_among : (x : A) (xs : List A) → Among x (reverse xs) → Among x xs
  reversed_among x [] h = h
  reversed_among x (y ∷ xs) h = elim (among_append x (reverse xs) (y ∷ []) (subst (λ (zs : List A). Among x zs) (reverse_first y xs) h)) [
    | inl a ↦ inr (reversed_among x xs a)
    | inr b ↦ elim b [ inl e ↦ inl e | inr c ↦ absurd c ]
  ]

-- a key below each of some writes is below each that is among them
pub below_writes : (key : List ℕ) (writes : List Write) → IsBelowEachWrite key writes → (w : Write) → Among w writes → is_below key w.key ≡ true
below_writes key [] h w a = absurd a
below_writes key (x ∷ writes) h w (inl e) = subst (λ (y : Write). is_below key y.key ≡ true) (sym e) h.0
below_writes key (x ∷ writes) h w (inr a) = below_writes key writes h.1 w a

-- of writes in order those after some are in order, and those before some
pub ascending_after : (ws rest : List Write) → AreAscendingWrites (ws ++ rest) → AreAscendingWrites rest
ascending_after [] rest h = h
ascending_after (w ∷ ws) rest h = ascending_after ws rest h.1

below_before : (key : List ℕ) (ws rest : List Write) → IsBelowEachWrite key (ws ++ rest) → IsBelowEachWrite key ws
below_before key [] rest h = tt
below_before key (w ∷ ws) rest h = (h.0, below_before key ws rest h.1)

pub ascending_before : (ws rest : List Write) → AreAscendingWrites (ws ++ rest) → AreAscendingWrites ws
ascending_before [] rest h = tt
ascending_before (w ∷ ws) rest h = (below_before w.key ws rest h.0, ascending_before ws rest h.1)

-- what comes before a write among others in order has a lower key
pub before_below : (before : List Write) (w : Write) (after : List Write) (x : Write) → AreAscendingWrites (before ++ w ∷ after) → Among x before → is_below x.key w.key ≡ true
before_below [] w after x h a = absurd a
before_below (b ∷ before) w after x h (inl e) =
    subst (λ (y : Write). is_below y.key w.key ≡ true) (sym e) (below_writes b.key (before ++ w ∷ after) h.0 w (among_right w before (w ∷ after) (inl refl)))
before_below (b ∷ before) w after x h (inr a) = before_below before w after x h.1 a

-- what is put of writes for which there is room
pub record HasPutSome (writes put : List Write) (t : Txn) : Type 0 where
  pub id : t.id ≢ 0
  pub room : t.full ≡ None
  pub undecided : t.place ≡ 0
  pub quiet : t.proposed ≡ 0
  pub reserved : t.reserved ≡ writes
  pub standing : t.write_set ≡ reverse put

pub none_put : (writes : List Write) (t : Txn) → MayPutAll writes t → HasPutSome writes [] t
none_put writes t h = record { id = h.0; room = h.1; undecided = h.2; quiet = h.3; reserved = h.4; standing = h.5 }

module _ (conn : ℕ) (writes : List Write) where
  -- writes were put after others
  pub puts_stage : (ws put : List Write) (account : List Entry) → WhenOpen (txns account) (HasPutSome writes put) → WhenOpen (txns (with_puts conn ws account)) (HasPutSome writes (put ++ ws))
  puts_stage [] put account h = subst (λ (ps : List Write). WhenOpen (txns account) (HasPutSome writes ps)) (sym (append-nil put)) h
  puts_stage (w ∷ ws) put account h =
      subst (λ (ps : List Write). WhenOpen (txns (with_puts conn (w ∷ ws) account)) (HasPutSome writes ps)) (append_assoc put (w ∷ []) ws)
      (puts_stage ws (put ++ w ∷ []) (entry_of (Put conn w.key w.rec) Done ∷ account)
      (when_changed (after_put w.key w.rec Done) (HasPutSome writes put) (HasPutSome writes (put ++ w ∷ [])) (txns account)
      (λ t live p. (
        live,
        record {
          id = p.id;
          room = p.room;
          undecided = p.undecided;
          quiet = p.quiet;
          reserved = p.reserved;
          standing = ap (λ (ps : List Write). w ∷ ps) p.standing ∙ sym (reverse_last w put);
        },
      )) h))

  -- the next one may be put
  pub may_put : (put : List Write) (w : Write) (left : List Write) (account : List Entry) → writes ≡ put ++ w ∷ left → AreAscendingWrites writes
      → WhenOpen (txns account) (HasPutSome writes put) → MayPutNow account w.key w.rec
  may_put put w left account e ascending = when_open (HasPutSome writes put) _ (txns account) (λ t h. (
    h.id,
    h.room,
    h.undecided,
    h.quiet,
    subst (λ (ws : List Write). Among w ws) (sym (h.reserved ∙ e)) (among_right w put (w ∷ left) (inl refl)),
    λ holds.
        let among = reversed_among (record { key = w.key; rec = holds.0 }) put (subst (λ (ws : List Write). Among (record { key = w.key; rec = holds.0 }) ws) h.standing holds.1) in
        true≢false (sym (before_below put w left (record { key = w.key; rec = holds.0 }) (subst AreAscendingWrites e ascending) among) ∙ below_irrefl w.key),
  ))

-- without a key that none of them has
without_none : (key : List ℕ) (ws : List Write) → ((w : Write) → Among w ws → bytes_eq w.key key ≡ false) → without key ws ≡ ws
without_none key [] h = refl
without_none key (w ∷ ws) h =
    ap (λ b. cond (not b) (w ∷ without key ws) (without key ws)) (h w (inl refl)) ∙ ap (λ (xs : List Write). w ∷ xs) (without_none key ws (λ x a. h x (inr a)))

kept_or_not : (b : Bool) (x : Write) (zs xs ys : List Write) → zs ≡ xs ++ ys → cond (not b) (x ∷ zs) zs ≡ cond (not b) (x ∷ xs) xs ++ ys
kept_or_not true x zs xs ys e = e
kept_or_not false x zs xs ys e = ap (λ (ws : List Write). x ∷ ws) e

without_append : (key : List ℕ) (xs ys : List Write) → without key (xs ++ ys) ≡ without key xs ++ without key ys
without_append key [] ys = refl
without_append key (x ∷ xs) ys = kept_or_not (bytes_eq x.key key) x (without key (xs ++ ys)) (without key xs) (without key ys) (without_append key xs ys)

-- the first one of writes in order is taken out
without_first : (w : Write) (ws : List Write) → IsBelowEachWrite w.key ws → without w.key (reverse (w ∷ ws)) ≡ reverse ws
without_first w ws below =
    ap (without w.key) (reverse_first w ws)
    ∙ without_append w.key (reverse ws) (w ∷ [])
    ∙ ap (λ b. without w.key (reverse ws) ++ cond (not b) (w ∷ []) []) (same w.key)
    ∙ append-nil (without w.key (reverse ws))
    ∙ without_none w.key (reverse ws) (λ x a. other x (below_writes w.key ws below x (reversed_among x ws a)))
  where
    same : (key : List ℕ) → bytes_eq key key ≡ true
    same key = (bytes_eq-Decides key key).1 refl

    other : (x : Write) → is_below w.key x.key ≡ true → bytes_eq x.key w.key ≡ false
    other x h = elim (bytes_eq x.key w.key) as (λ b. bytes_eq x.key w.key ≡ b → b ≡ false) [
      | true ↦ λ e. absurd (true≢false (sym h ∙ ap (is_below w.key) ((bytes_eq-Decides x.key w.key).0 e) ∙ below_irrefl w.key))
      | false ↦ λ e. refl
    ] refl

module _ (conn : ℕ) where
  -- writes were taken out, of those that are put
  pub unputs_stage : (ws rest : List Write) (account : List Entry) → AreAscendingWrites (ws ++ rest) → WhenOpen (txns account) (HasPut (ws ++ rest))
      → WhenOpen (txns (with_unputs conn ws account)) (HasPut rest)
  unputs_stage [] rest account ascending h = h
  unputs_stage (w ∷ ws) rest account ascending h =
      unputs_stage ws rest (entry_of (Unput conn w.key) Done ∷ account) ascending.1
      (when_changed (after_unput w.key Done) (HasPut (w ∷ ws ++ rest)) (HasPut (ws ++ rest)) (txns account)
      (λ t live p. (live, (p.0, ap (without w.key) p.1 ∙ without_first w (ws ++ rest) ascending.0))) h)

-- the first of what is put may be taken out
pub may_unput : (w : Write) (rest : List Write) (account : List Entry) → WhenOpen (txns account) (HasPut (w ∷ rest)) → MayUnputNow account w.key
may_unput w rest account = when_open (HasPut (w ∷ rest)) _ (txns account) (λ t h. (
  (w.rec, subst (λ (ws : List Write). Among w ws) (sym h.1) (among_reversed w (w ∷ rest) (inl refl))),
  h.0,
))

module _ {A : Type 0} (xs : List A) (i : ℕ) (x : A) (within : i < length xs) (is : x ≡ get_or xs i x) where
  -- a list around one of its places
  pub around : xs ≡ take i xs ++ x ∷ drop (i + 1) xs
  around =
      let e : suc i ≡ i + 1 = omega arith in
      split_at xs i x within
      ∙ ap (λ (y : A). take i xs ++ y ∷ drop (suc i) xs) (sym is)
      ∙ ap (λ (n : ℕ). take i xs ++ x ∷ drop n xs) e

  -- up to the next place
  pub taken_next : take (i + 1) xs ≡ take i xs ++ x ∷ []
  taken_next = take_more xs i x within ∙ ap (λ (y : A). take i xs ++ y ∷ []) (sym is)

module _ (conn : ℕ) (writes : List Write) (i : ℕ) (w : Write) (account now : List Entry) (within : i < length writes) (is : w ≡ get_or writes i w) where
  module _ (put : now ≡ with_puts conn (take i writes) account) where
    -- where those before it are put, a write may be put
    pub next_put : AreAscendingWrites writes → WhenOpen (txns account) (MayPutAll writes) → MayPutNow now w.key w.rec
    next_put ascending room =
        may_put conn writes (take i writes) w (drop (i + 1) writes) now (around writes i w within is) ascending
        (subst (λ (a : List Entry). WhenOpen (txns a) (HasPutSome writes (take i writes))) (sym put)
        (puts_stage conn writes (take i writes) [] account (when_open (MayPutAll writes) (HasPutSome writes []) (txns account) (none_put writes) room)))

    module _ (at : ℕ) (key : List ℕ) (rec : Option (List ℕ)) (same_conn : at ≡ conn) (same_key : key ≡ w.key) (same_rec : rec ≡ w.rec) (after : List Entry) where
      entry_as : (outcome : Outcome) → after ≡ entry_of (Put at key rec) outcome ∷ now → after ≡ entry_of (Put conn w.key w.rec) outcome ∷ with_puts conn (take i writes) account
      entry_as outcome e = cc

      -- it was put
      pub put_next : after ≡ entry_of (Put at key rec) Done ∷ now → after ≡ with_puts conn (take (i + 1) writes) account
      put_next e =
          entry_as Done e ∙ sym (puts_more conn (take i writes) w account) ∙ ap (λ (ws : List Write). with_puts conn ws account) (sym (taken_next writes i w within is))

      -- or refused
      pub put_met : (met : MetRecord) → after ≡ entry_of (Put at key rec) (Met met) ∷ now → met.conn ≢ at → met.key ≡ key → HasMetAt conn writes met i account after
      put_met met e other here = (
        record {
          put = take i writes;
          write = w;
          left = drop (i + 1) writes;
          all = around writes i w within is;
          grown = entry_as (Met met) e;
          names = (here ∙ same_key, subst (λ (n : ℕ). met.conn ≢ n) same_conn other);
        },
        length-take-le i writes (omega (arith, within)),
      )

  module _ (taken : now ≡ with_unputs conn (take i writes) account) where
    -- where those before it were taken out, a write may be taken out
    pub next_unput : AreAscendingWrites writes → WhenOpen (txns account) (HasPut writes) → MayUnputNow now w.key
    next_unput ascending put =
        may_unput w (drop (i + 1) writes) now
        (subst (λ (a : List Entry). WhenOpen (txns a) (HasPut (w ∷ drop (i + 1) writes))) (sym taken)
        (unputs_stage conn (take i writes) (w ∷ drop (i + 1) writes) account (subst AreAscendingWrites (around writes i w within is) ascending)
        (subst (λ (ws : List Write). WhenOpen (txns account) (HasPut ws)) (around writes i w within is) put)))

    pub unput_next : (at : ℕ) (key : List ℕ) → at ≡ conn → key ≡ w.key → (after : List Entry) → after ≡ entry_of (Unput at key) Done ∷ now → after ≡ with_unputs conn (take (i + 1) writes) account
    unput_next at key same_conn same_key after e =
        entry_as e ∙ sym (unputs_more conn (take i writes) w account) ∙ ap (λ (ws : List Write). with_unputs conn ws account) (sym (taken_next writes i w within is))
      where
        entry_as : after ≡ entry_of (Unput at key) Done ∷ now → after ≡ entry_of (Unput conn w.key) Done ∷ with_unputs conn (take i writes) account
        entry_as f = cc

-- where all were taken out, nothing is put
pub all_unput : (conn : ℕ) (writes : List Write) (account now : List Entry) → now ≡ with_unputs conn writes account → AreAscendingWrites writes → WhenOpen (txns account) (HasPut writes)
    → WhenOpen (txns now) HasNonePut
all_unput conn writes account now taken ascending put =
    subst (λ (a : List Entry). WhenOpen (txns a) HasNonePut) (sym taken)
    (when_open (HasPut []) HasNonePut (txns (with_unputs conn writes account)) (λ t h. h.1)
    (unputs_stage conn writes [] account (subst AreAscendingWrites (sym (append-nil writes)) ascending)
    (subst (λ (ws : List Write). WhenOpen (txns account) (HasPut ws)) (sym (append-nil writes)) put)))

module _ (conn : ℕ) (writes : List Write) (met : MetRecord) (count : ℕ) (account now : List Entry) (m : HasMetAt conn writes met count account now) where
  -- those that are put where a put is refused are the first ones
  pub first_ones : take count writes ≡ m.0.put
  first_ones =
      ap (λ (n : ℕ). take n writes) (sym m.1)
      ∙ ap (take (length m.0.put)) m.0.all
      ∙ taken m.0.put (m.0.write ∷ m.0.left)
    where
      taken : (xs ys : List Write) → take (length xs) (xs ++ ys) ≡ xs
      taken [] ys = refl
      taken (x ∷ xs) ys = ap (λ (zs : List Write). x ∷ zs) (taken xs ys)

  pub count_within : count ≤ length writes
  count_within =
      let e : length writes ≡ length (m.0.put ++ m.0.write ∷ m.0.left) = ap (λ (ws : List Write). length ws) m.0.all in
      omega (arith, e, long m.0.put (m.0.write ∷ m.0.left), m.1)
    where
      long : (xs ys : List Write) → length xs ≤ length (xs ++ ys)
      long [] ys = omega arith
      long (x ∷ xs) ys = omega (arith, long xs ys)

  pub first_ascend : AreAscendingWrites writes → AreAscendingWrites (take count writes)
  first_ascend h = ascending_before (take count writes) (drop count writes) (subst AreAscendingWrites (sym (take-append-drop count writes)) h)

  -- and they may be taken out
  pub first_put : WhenOpen (txns account) (MayPutAll writes) → WhenOpen (txns now) (HasPut (take count writes))
  first_put room =
      subst (λ (a : List Entry). WhenOpen (txns a) (HasPut (take count writes))) (sym m.0.grown)
      (when_changed (after_put m.0.write.key m.0.write.rec (Met met)) (HasPutSome writes m.0.put) (HasPut (take count writes)) (txns (with_puts conn m.0.put account))
      (λ t live h. (live, (h.undecided, h.standing ∙ ap reverse (sym first_ones))))
      (puts_stage conn writes m.0.put [] account (when_open (MayPutAll writes) (HasPutSome writes []) (txns account) (none_put writes) room)))

  pub given_up : (at : ℕ) (after : List Entry) → at ≡ conn → after ≡ with_unputs at (take count writes) now → HasGivenUpPuts conn writes met account after
  given_up at after same e = record {
    between = now;
    refused = m.0;
    taken = e ∙ ap (λ (n : ℕ). with_unputs n (take count writes) now) same ∙ ap (λ (ws : List Write). with_unputs conn ws now) first_ones;
  }
