-- The table has what right runs ask of a language.
use Rattle.std.proofs.Common.{◌≡◌, ◌≢◌, ◌∙◌, refl, sym, ap, subst, ℕ, ℤ, false, Option, Some, None, List, inl, ⊎_elim, bytes_eq, FitsSigned, w64}
use Rattle.std.proofs.lemmas.Bool.{cases_Bool}
use Rattle.std.proofs.lemmas.Slice.Eq.{bytes_eq-Decides}
use Rattle.hc_record.specs.Laws.{NoEncodingBeginsAnother}
use Rattle.hc_key.specs.Laws.{ByteOrderIsValueOrder, KeysDiffer}
use Rattle.hc_range.specs.Ranges.{InRange, InAny}
use Rattle.hc_transcript.specs.declared.refusal.Refusal.{Refusal}
use Rattle.hc_transcript.specs.declared.reply.Line.TheVariants.{Error}
use Rattle.hc_meaning.specs.Runs.Language.{AgreeOn, IsLanguage, IsOwn, record_at}
use Rattle.hc_table.specs.Rows.{Rows, AreRows, value_of, cells_of_rows, row_key, row_range}
use Rattle.hc_table.specs.declared.action.Action.{Action}
use Rattle.hc_table.specs.Statements.{form_of, if_integers, id_of, answer_at, put_at}
use Rattle.hc_table.specs.Language.{rows_with, effect, ranges_of, table_language}
use Rattle.hc_table.proofs.Actions.{PutFits, HaveFit, they_fit, id_fits, put_fits, own_at, none_put}
use Rattle.hc_table.proofs.Cells.{record_with, key_in_range, same_rows, cells_ascend, at_with, same_value}
use Rattle.hc_table.proofs.Placing.{are_with}

rows_kept : (id : ℤ) (put : Option ℤ) (rows : Rows) → FitsSigned w64 id → PutFits put → AreRows rows → AreRows (rows_with id put rows)
rows_kept id None rows fits put_fits are = are
rows_kept id (Some v) rows fits put_fits are = are_with id v rows fits put_fits are

kept : (rows : Rows) (action : Option Action) → HaveFit action → AreRows rows → AreRows (effect rows action).db
kept rows None fit are = are
kept rows (Some action) fit are =
    rows_kept (id_of action) (put_at action (value_of rows (id_of action))) rows (id_fits action fit) (put_fits action (value_of rows (id_of action)) fit) are

own : (rows : Rows) (action : Option Action) → IsOwn (effect rows action).answer.last
own rows None = tt
own rows (Some action) = own_at action (value_of rows (id_of action))

refused : (rows : Rows) (action : Option Action) (refusal : Refusal) → (effect rows action).answer.last ≡ Error refusal → (effect rows action).db ≡ rows
refused rows None refusal e = refl
refused rows (Some action) refusal e =
    ap (λ (put : Option ℤ). rows_with (id_of action) put rows) (none_put action (value_of rows (id_of action)) refusal e)

-- where nothing is put at a key, it is as before
left_alone : (id : ℤ) (put : Option ℤ) (key : List ℕ) (old : Option (List ℕ)) → bytes_eq (row_key id) key ≡ false → record_with id put key old ≡ old
left_alone id None key old other = refl
left_alone id (Some v) key old other = rw other refl

module _ (order : ByteOrderIsValueOrder) (keys : KeysDiffer) (encodings : NoEncodingBeginsAnother) where
  -- rows that agree on the key of a row have the same value there
  agreed : (a b : Rows) (action : Action) → HaveFit (Some action) → AreRows a → AreRows b → AgreeOn table_language (ranges_of (Some action)) a b
      → value_of a (id_of action) ≡ value_of b (id_of action)
  agreed a b action fit are also agree =
      same_value order keys encodings a b (id_of action) (id_fits action fit) are also (agree (row_key (id_of action)) (inl (key_in_range (id_of action))))

  same_answer : (a b : Rows) (action : Option Action) → HaveFit action → AreRows a → AreRows b → AgreeOn table_language (ranges_of action) a b
      → (effect a action).answer ≡ (effect b action).answer
  same_answer a b None fit are also agree = refl
  same_answer a b (Some action) fit are also agree = ap (answer_at action) (agreed a b action fit are also agree)

  same_changes : (a b : Rows) (action : Option Action) → HaveFit action → AreRows a → AreRows b → AgreeOn table_language (ranges_of action) a b
      → AgreeOn table_language (ranges_of action) (effect a action).db (effect b action).db
  same_changes a b None fit are also agree = agree
  same_changes a b (Some action) fit are also agree = λ key within.
      at_with order keys encodings (id_of action) (put_at action (value_of a (id_of action))) a key (id_fits action fit) are
      ∙ ap (λ (there : Option ℤ). record_with (id_of action) (put_at action there) key (record_at (cells_of_rows a) key)) (agreed a b action fit are also agree)
      ∙ ap (record_with (id_of action) (put_at action (value_of b (id_of action))) key) (agree key within)
      ∙ sym (at_with order keys encodings (id_of action) (put_at action (value_of b (id_of action))) b key (id_fits action fit) also)

  changes_read : (rows : Rows) (action : Option Action) (key : List ℕ) → HaveFit action → AreRows rows
      → record_at (cells_of_rows (effect rows action).db) key ≢ record_at (cells_of_rows rows) key → InAny (ranges_of action) key
  changes_read rows None key fit are changed = absurd (changed refl)
  changes_read rows (Some action) key fit are changed =
      ⊎_elim
      (λ here. inl (subst (λ (k : List ℕ). InRange (row_range (id_of action)) k) ((bytes_eq-Decides (row_key (id_of action)) key).0 here) (key_in_range (id_of action))))
      (λ other. absurd (changed (at_with order keys encodings (id_of action) (put_at action (value_of rows (id_of action))) rows key (id_fits action fit) are
      ∙ left_alone (id_of action) (put_at action (value_of rows (id_of action))) key (record_at (cells_of_rows rows) key) other)))
      (cases_Bool (bytes_eq (row_key (id_of action)) key))

  pub is_language : IsLanguage table_language
  is_language = record {
    start_is = tt;
    start_empty = refl;
    kept = λ rows statement. kept rows (if_integers (form_of statement)) (they_fit (form_of statement));
    ascending = cells_ascend order keys encodings;
    told = same_rows order keys encodings;
    own = λ rows statement are. own rows (if_integers (form_of statement));
    refused = λ rows statement refusal are. refused rows (if_integers (form_of statement)) refusal;
    same_answer = λ a b statement. same_answer a b (if_integers (form_of statement)) (they_fit (form_of statement));
    same_reads = λ a b statement are also agree key. (λ within. within, λ within. within);
    same_changes = λ a b statement. same_changes a b (if_integers (form_of statement)) (they_fit (form_of statement));
    changes_read = λ rows statement key. changes_read rows (if_integers (form_of statement)) key (they_fit (form_of statement));
  }
