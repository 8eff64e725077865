-- Two pages written out by hand, word by word, from the table of the layout.
use Rattle.std.specs.Prelude.{ℕ, List, [], ◌∷◌, replicate, Some, None}
use Rattle.hc_base.specs.Content.{Content, Version, Child}

-- A leaf of number 5, with number 9 at its right, for the keys from "b" up to, and without, "m". Its entries: "cat",
-- put by transaction 7 with the record "meow" after the version in slot 3 of page 258; and "dog", deleted by
-- transaction 8.
abbrev pub leaf : Content
leaf = record {
  level = 0;
  own = record { 0 = 5 };
  right = Some (record { 0 = 9 });
  low = 98 ∷ [];
  high = Some (109 ∷ []);
  mark = 0;
  entries =
      (record { key = 99 ∷ 97 ∷ 116 ∷ []; held = Version (record { 0 = 7 }) (Some (109 ∷ 101 ∷ 111 ∷ 119 ∷ [])) (Some (record { page = record { 0 = 258 }; slot = 3 })) })
      ∷ (record { key = 100 ∷ 111 ∷ 103 ∷ []; held = Version (record { 0 = 8 }) None None })
      ∷ [];
}

-- word 0: kind 1, level 0, 2 entries, 13 used words, no flag; word 1: numbers 5 and 9; word 2: the low fence at word 5
-- with length 1, the high one at word 6 with length 1; word 4: the entries at words 7 and 10
abbrev pub leaf_words : List ℕ
leaf_words =
    0x0100_0002_000D_0000 ∷ 0x0000_0005_0000_0009 ∷ 0x0005_0001_0006_0001 ∷ 0 ∷ 0x0007_000A_0000_0000
    ∷ 0x6200_0000_0000_0000 ∷ 0x6D00_0000_0000_0000
    ∷ 0x0000_0007_0030_0400 ∷ 0x0000_0102_0003_0000 ∷ 0x6361_746D_656F_7700
    ∷ 0x0000_0008_0030_0001 ∷ 0 ∷ 0x646F_6700_0000_0000
    ∷ replicate 243 0

-- An inner page of number 2 and level 1 with three entries, no right one and no high fence. Its first key, which is its
-- low fence, is empty; then a key of nine bytes, "abc" and so on, whose last one has a word of its own, and "k".
abbrev pub inner : Content
inner = record {
  level = 1;
  own = record { 0 = 2 };
  right = None;
  low = [];
  high = None;
  mark = 0;
  entries =
      (record { key = []; held = Child (record { 0 = 1 }) })
      ∷ (record { key = 97 ∷ 98 ∷ 99 ∷ 100 ∷ 101 ∷ 102 ∷ 103 ∷ 104 ∷ 105 ∷ []; held = Child (record { 0 = 3 }) })
      ∷ (record { key = 107 ∷ []; held = Child (record { 0 = 4 }) })
      ∷ [];
}

-- word 0: kind 2, level 1, 3 entries, 11 used words, no high fence; word 2: the low fence is the first key, at word 6
abbrev pub inner_words : List ℕ
inner_words =
    0x0201_0003_000B_0001 ∷ 0x0000_0002_0000_0000 ∷ 0x0006_0000_0000_0000 ∷ 0 ∷ 0x0005_0006_0009_0000
    ∷ 0x0000_0001_0000_0000
    ∷ 0x0000_0003_0009_0000 ∷ 0x6162_6364_6566_6768 ∷ 0x6900_0000_0000_0000
    ∷ 0x0000_0004_0001_0000 ∷ 0x6B00_0000_0000_0000
    ∷ replicate 245 0
