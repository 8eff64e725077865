-- A table alone is a database.
use Rattle.std.proofs.Common.{◌≡◌, ℕ, ◌≤◌, List, [], ◌∷◌, inl, inr, map, sym, subst, arith}
use Rattle.std.specs.List.{AllByRecursion}
use Rattle.std.proofs.lemmas.List.{append-nil}
use Rattle.hc_base.specs.Lookup.{Among}
use Rattle.hc_schema.specs.declared.table.Table.{Table}
use Rattle.hc_schema.specs.declared.table.Index.{Index}
use Rattle.hc_schema.specs.Tables.{NamesDiffer, AscendFrom, AreDistinct, index_names}
use Rattle.hc_schema.specs.Cells.{IsTable}
use Rattle.hc_schema.specs.Databases.{Database, Filled, IsFilled, IsDatabase, AreUnique}

-- numbers that ascend are above the first, and distinct
above : (low n : ℕ) (ns : List ℕ) → n ≤ low → AscendFrom low ns → AllByRecursion (λ m. n ≡ m → ⊥) ns
above low n [] le ascend = tt
above low n (m ∷ ns) le ascend = ((λ same. omega (arith, le, ascend.0, same)), above m n ns (omega (arith, le, ascend.0)) ascend.1)

ascend_distinct : (low : ℕ) (ns : List ℕ) → AscendFrom low ns → AreDistinct ns
ascend_distinct low [] ascend = tt
ascend_distinct low (n ∷ ns) ascend = (above n n ns (omega arith) ascend.1, ascend_distinct n ns ascend.1)

-- a table without rows
abbrev pub unfilled : Table → Filled
unfilled t = record { table = t; rows = [] }

none_unique : (indexes : List Index) → AllByRecursion (λ index. AreUnique index []) indexes
none_unique [] = tt
none_unique (index ∷ indexes) = (tt, none_unique indexes)

is_filled : (t : Table) → IsTable t → IsFilled (unfilled t)
is_filled t is = record { table = is; rows = tt; ascend = tt; unique = none_unique t.indexes }

pub alone : (t : Table) → IsTable t → IsDatabase (unfilled t ∷ [])
alone t is = record {
  filled = (is_filled t is, tt);
  ascend = (is.form.tree.0, tt);
  trees = subst AreDistinct (sym (append-nil (t.tree ∷ map (λ (index : Index). index.tree) t.indexes))) (ascend_distinct 0 (t.tree ∷ map (λ (index : Index). index.tree) t.indexes) (is.form.tree.0, is.form.trees));
  names = subst NamesDiffer (sym (append-nil (t.name ∷ index_names t.indexes))) is.form.index_names;
}

-- each table of a database is one
pub is_one : (db : Database) (filled : Filled) → AllByRecursion IsFilled db → Among filled db → IsTable filled.table
is_one [] filled are among = absurd among
is_one (one ∷ db) filled are (inl same) = subst (λ (f : Filled). IsTable f.table) (sym same) are.0.table
is_one (one ∷ db) filled are (inr among) = is_one db filled are.1 among
