-- The fields of a line with its end.
use Rattle.std.specs.Prelude.{ℕ, List, [], ◌∷◌, ◌++◌}
use Rattle.hc_transcript.specs.Fields.{Fields, Content, content_text}

-- what the fields hold, and the line feed (10)
abbrev pub content_end : (fields : Fields) → Content fields → List ℕ
content_end fields content = content_text fields content ++ 10 ∷ []
