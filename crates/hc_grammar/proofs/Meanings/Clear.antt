-- At each place and in a statement one lexeme is enough to choose by.
use Rattle.std.proofs.Common.{◌≡◌, not, true, refl}
use Rattle.hc_grammar.specs.Grammar.{Place, Whole, Negation, Signed, Asked, is_guarded}
use Rattle.hc_grammar.specs.First.{first, ends, nullable, place_first, place_ends, included, is_clear_by_one}
use Rattle.hc_grammar.specs.Queries.{item}
use Rattle.hc_grammar.specs.Statements.{statement}
use Rattle.hc_grammar.specs.Places.{body}

pub body_clear : {A : Type 0} (place : Place A) → is_clear_by_one (body place) ≡ true
body_clear Whole = refl
body_clear Negation = refl
body_clear Signed = refl
body_clear Asked = refl

pub body_filled : {A : Type 0} (place : Place A) → not (nullable (body place)) ≡ true
body_filled Whole = refl
body_filled Negation = refl
body_filled Signed = refl
body_filled Asked = refl

pub body_first : {A : Type 0} (place : Place A) → included (first (body place)) (place_first place) ≡ true
body_first Whole = refl
body_first Negation = refl
body_first Signed = refl
body_first Asked = refl

pub body_ends : {A : Type 0} (place : Place A) → included (ends (body place)) (place_ends place) ≡ true
body_ends Whole = refl
body_ends Negation = refl
body_ends Signed = refl
body_ends Asked = refl

pub body_guarded : {A : Type 0} (place : Place A) → is_guarded (body place) ≡ true
body_guarded Whole = refl
body_guarded Negation = refl
body_guarded Signed = refl
body_guarded Asked = refl

pub item_clear : is_clear_by_one item ≡ true
item_clear = refl

pub item_filled : not (nullable item) ≡ true
item_filled = refl

pub item_first : included (first item) (place_first Asked) ≡ true
item_first = refl

pub item_ends : included (ends item) (place_ends Asked) ≡ true
item_ends = refl

pub statement_clear : is_clear_by_one statement ≡ true
statement_clear = refl
