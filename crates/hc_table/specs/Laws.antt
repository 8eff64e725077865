-- What holds of the one table as a language.
use Rattle.hc_meaning.specs.Runs.Language.{IsLanguage}
use Rattle.hc_table.specs.Language.{table_language}

-- it has all that right runs ask of a language
abbrev pub TheTableIsALanguage : Type 0
TheTableIsALanguage = IsLanguage table_language
