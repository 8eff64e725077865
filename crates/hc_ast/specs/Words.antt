-- Words: the pieces of canonical text, each of which is one token of SQL.
--
-- What is written for a quote within quotes, and for a blob, is after SQLite's lang_expr.html and
-- lang_keywords.html. That blobs have upper-case digits, that each name is in quotes, and that a minus is a
-- word of its own are rules of our own.
use Rattle.std.specs.Prelude.{ℕ, ℤ, pos, List, [], ◌∷◌, ◌++◌, Bool, int_lt, nat_abs, if◌then◌else◌, codes, decimal, map}
use Rattle.std.specs.List.{flat_map, join_with_byte}
use Rattle.hc_text.specs.Digits.{byte_digits}
use Rattle.hc_text.specs.Quotes.{quoted}
use Rattle.hc_value.specs.declared.value.Value.{Value}
use Rattle.hc_value.specs.declared.value.Value.TheVariants.{Null, Int, Text, Blob}

-- words in order
abbrev pub Words : Type 0
Words = List (List ℕ)

-- their text: one space (32) is between two words
abbrev pub text_of : Words → List ℕ
text_of words = join_with_byte 32 words

-- a space before each word, as they follow other words
abbrev pub spaced : Words → List ℕ
spaced words = flat_map (λ word. 32 ∷ word) words

-- a name in `"` (34)
abbrev pub name_word : List ℕ → List ℕ
name_word name = quoted 34 name

-- `X'..'` (88 and 39)
unfoldable pub blob_word : List ℕ → List ℕ
blob_word bytes = 88 ∷ 39 ∷ flat_map byte_digits bytes ++ 39 ∷ []

-- these words where the flag is set
abbrev pub words_if : Bool → Words → Words
words_if flag words = if flag then words else []

-- the digits, and a minus before them where it is below zero
abbrev pub integer_words : ℤ → Words
integer_words n = words_if (int_lt n (pos 0)) (codes "-" ∷ []) ++ decimal (nat_abs n) ∷ []

-- a literal; a text is in `'` (39)
abbrev pub value_words : Value → Words
value_words Null = codes "NULL" ∷ []
value_words (Int n) = integer_words n
value_words (Text text) = quoted 39 text ∷ []
value_words (Blob bytes) = blob_word bytes ∷ []

-- parts with a comma between two
abbrev pub listed : List Words → Words
listed [] = []
listed (part ∷ parts) = part ++ flat_map (λ other. codes "," ∷ other) parts

-- words in parentheses
abbrev pub enclosed : Words → Words
enclosed words = codes "(" ∷ words ++ codes ")" ∷ []

-- names in parentheses, with commas between them
abbrev pub name_list : List (List ℕ) → Words
name_list names = enclosed (listed (map (λ name. name_word name ∷ []) names))
