-- What one of the three statements does to a transaction is what the table's language says.
use Rattle.std.proofs.Common.{◌≡◌, ◌∙◌, refl, sym, ap, subst, ℕ, ℤ, Bool, true, false, cond, Option, Some, None, List, bytes_eq, inl, inr, ◌⊎◌, ◌↔◌}
use Rattle.std.specs.Option.{unwrap_or}
use Rattle.hc_range.specs.Ranges.{InAny}
use Rattle.hc_ast.specs.declared.statement.Stmt.{Stmt}
use Rattle.hc_record.specs.Laws.{NoEncodingBeginsAnother}
use Rattle.hc_key.specs.Laws.{ByteOrderIsValueOrder, KeysDiffer}
use Rattle.hc_core.specs.declared.account.Entry.{Entry}
use Rattle.hc_core.specs.declared.cells.Write.{Write}
use Rattle.hc_txn.specs.Stores.{Store, latest, over}
use Rattle.hc_txn.specs.Transactions.{Transaction}
use Rattle.hc_txn.proofs.OneKey.{one_key}
use Rattle.hc_meaning.specs.declared.answer.Answer.{Answer}
use Rattle.hc_meaning.specs.Runs.Language.{record_at}
use Rattle.hc_table.specs.declared.action.Action.{Action}
use Rattle.hc_table.specs.Rows.{Rows, AreRows, cells_of_rows, row_key, row_record, value_of}
use Rattle.hc_table.specs.Statements.{action_of, answer_at, form_of, id_of, put_at}
use Rattle.hc_table.specs.Language.{effect, ranges_of, table_language}
use Rattle.hc_table.proofs.Actions.{HaveFit, id_fits, they_fit}
use Rattle.hc_table.proofs.Cells.{at_row, at_with, record_with, value_fits}
use Rattle.hc_execute.specs.Done.{Fits, IsDone, own_with}
use Rattle.hc_execute.specs.Running.{HasRun, store_of}

over_cond : (b : Bool) (rec : List ℕ) (later : Option (Option (List ℕ))) (old : Option (List ℕ)) → unwrap_or (cond b (Some (Some rec)) later) old ≡ cond b (Some rec) (unwrap_or later old)
over_cond true rec later old = refl
over_cond false rec later old = refl

-- own writes with a row's new value
over_with : (id : ℤ) (put : Option ℤ) (own : List Write) (store : Store) (key : List ℕ) → over (own_with (row_key id) put own) store key ≡ record_with id put key (over own store key)
over_with id None own store key = refl
over_with id (Some v) own store key = over_cond (bytes_eq (row_key id) key) (row_record v) (latest own key) (store key)

module _ (order : ByteOrderIsValueOrder) (keys : KeysDiffer) (encodings : NoEncodingBeginsAnother)
    (statement : Stmt) (action : Action) (is : Some action ≡ action_of statement) (account : List Entry) (before after : Transaction) (answer : Answer) where
  fits_there : (rows : Rows) (id : ℤ) → AreRows rows → Fits (value_of rows id)
  fits_there rows id are = by (value_of rows id) refl
    where
      by : (there : Option ℤ) → value_of rows id ≡ there → Fits there
      by None e = tt
      by (Some v) e = value_fits order keys encodings rows id v are e

  fit : HaveFit (Some action)
  fit = subst HaveFit (sym is) (they_fit (form_of statement))

  pub ran : IsDone action account before after answer → HasRun table_language statement account before after answer
  ran done snapshot db seen = record {
    answered = ap (λ (form : Option Action). (effect db form).answer) (sym is) ∙ ap (answer_at action) (sym same) ∙ sym done.answered;
    sees = λ key.
        ap (λ (own : List Write). over own (store_of table_language snapshot) key) done.own
        ∙ over_with (id_of action) (put_at action done.there) before.own (store_of table_language snapshot) key
        ∙ ap (record_with (id_of action) (put_at action done.there) key) (seen.sees key)
        ∙ ap (λ (there : Option ℤ). record_with (id_of action) (put_at action there) key (record_at (cells_of_rows db) key)) same
        ∙ sym (at_with order keys encodings (id_of action) (put_at action (value_of db (id_of action))) db key (id_fits action fit) seen.is)
        ∙ ap (λ (form : Option Action). record_at (cells_of_rows (effect db form).db) key) is;
    logged = λ key. subst (λ (form : Option Action). InAny after.log key ↔ (InAny before.log key ⊎ InAny (ranges_of form) key)) is (
      λ a. elim ((done.log key).0 a) [ inl b ↦ inl b | inr b ↦ inr (inl ((one_key (row_key (id_of action)) key).1 b)) ],
      λ a. elim a [ inl b ↦ (done.log key).1 (inl b) | inr b ↦ elim b [ inl r ↦ (done.log key).1 (inr ((one_key (row_key (id_of action)) key).0 r)) | inr none ↦ absurd none ] ],
    );
  }
    where
      same : done.there ≡ value_of db (id_of action)
      same = done.is_there (store_of table_language snapshot) seen.agrees (value_of db (id_of action)) (fits_there db (id_of action) seen.is)
          (seen.sees (row_key (id_of action)) ∙ at_row order keys encodings db (id_of action) (id_fits action fit) seen.is)
