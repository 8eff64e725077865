-- What all may rest on that is said of entries.
use Rattle.std.proofs.Common.{◌≡◌, ◌∙◌, sym, ℕ, ◌+◌, ◌-◌, ◌≤◌, true, false, leb, ⊎_elim, arith}
use Rattle.std.proofs.lemmas.Bool.{true≢false, leb-true, le-leb, cases_Bool, and_left}
use Rattle.std.specs.Cmp.{both_ways}
use Rattle.hc_base.specs.Entries.{entry_fits}

-- a key of an entry within the limit has at most 463 bytes
pub short_key : (key_len rec_len : ℕ) → entry_fits key_len rec_len ≡ true → key_len ≤ 463
unfolding entry_fits
short_key key_len rec_len fits =
    ⊎_elim (λ short. leb-true key_len 463 short)
    (λ long. absurd (true≢false (sym fits ∙ and_left (leb key_len 463) (leb (16 + key_len + rec_len) 480) long)))
    (cases_Bool (leb key_len 463))

-- a record fits beside a short key where the rest of the room is enough
pub fits_beside : (key_len rec_len : ℕ) → key_len ≤ 463 → leb rec_len (464 - key_len) ≡ entry_fits key_len rec_len
unfolding entry_fits
fits_beside key_len rec_len short =
    rw (le-leb key_len 463 short) (both_ways (leb rec_len (464 - key_len)) (leb (16 + key_len + rec_len) 480)
    (λ fits. le-leb (16 + key_len + rec_len) 480 (omega (arith, leb-true rec_len (464 - key_len) fits, short)))
    (λ fits. le-leb rec_len (464 - key_len) (omega (arith, leb-true (16 + key_len + rec_len) 480 fits))))

-- no record fits beside a long key
pub fits_not : (key_len rec_len : ℕ) → leb key_len 463 ≡ false → leb key_len 463 ≡ entry_fits key_len rec_len
unfolding entry_fits
fits_not key_len rec_len long = long ∙ sym (and_left (leb key_len 463) (leb (16 + key_len + rec_len) 480) long)
