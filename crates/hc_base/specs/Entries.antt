-- Which entries the store takes.
use Rattle.std.specs.Prelude.{ℕ, ◌+◌, Bool, leb, ◌&&◌}

-- Whether a key and a record of these lengths are within the limit of an entry. The limit will change, so nothing
-- above rests on this text: what is rested on is that the key is short (`short_key` of proofs/Entries.antt).
unfoldable pub entry_fits : ℕ → ℕ → Bool
entry_fits key_len rec_len = leb key_len 463 && leb (16 + key_len + rec_len) 480
