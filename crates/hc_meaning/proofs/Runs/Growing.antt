-- A transcript that fits grows by a reply.
use Rattle.std.proofs.Common.{◌≡◌, ◌∙◌, refl, sym, ap, ℕ, ◌+◌, Some, None, List, [], ◌∷◌, ◌++◌, length, reverse}
use Rattle.std.specs.List.{AllByRecursion, AllZip}
use mathlib.Core.List.{reverse-append}
use Rattle.hc_core.specs.Account.{Txn}
use Rattle.hc_transcript.specs.declared.reply.Reply.{Reply}
use Rattle.hc_meaning.specs.declared.command.Command.{Command}
use Rattle.hc_meaning.specs.Runs.Cut.{IsRefusedOutside, cut, items_of}
use Rattle.hc_meaning.specs.Runs.Fits.{Fits}
use Rattle.hc_meaning.specs.Runs.Fitting.{FitsOne}
use Rattle.hc_meaning.specs.Runs.Growing.{FitsAtStart, FitsGrows, NextReplyFits, next_closed, next_move}
use Rattle.hc_meaning.specs.Runs.Language.{Language}
use Rattle.hc_meaning.specs.Runs.Walk.{Belongs, Closes, LeavesOut, Move, Outside}
use Rattle.hc_meaning.proofs.Runs.NextCut.{after_move, next_cut}

zip_push : {A B : Type 0} (R : A → B → Type 0) (xs : List A) (ys : List B) (x : A) (y : B) → AllZip R xs ys → R x y → AllZip R (xs ++ x ∷ []) (ys ++ y ∷ [])
zip_push R [] [] x y zip one = (one, tt)
zip_push R [] (w ∷ ys) x y zip one = absurd zip
zip_push R (z ∷ xs) [] x y zip one = absurd zip
zip_push R (z ∷ xs) (w ∷ ys) x y zip one = (zip.0, zip_push R xs ys x y zip.1 one)

all_push : {A : Type 0} (P : A → Type 0) (xs : List A) (x : A) → AllByRecursion P xs → P x → AllByRecursion P (xs ++ x ∷ [])
all_push P [] x all one = (one, tt)
all_push P (y ∷ xs) x all one = (all.0, all_push P xs x all.1 one)

newest_first : (closed older : List Txn) (x : Txn) → x ∷ (reverse closed ++ older) ≡ [] ++ reverse (closed ++ x ∷ []) ++ older
newest_first closed older x = ap (λ (l : List Txn). l ++ older) (sym (reverse-append closed (x ∷ [])))

start_cut : (conn n : ℕ) (commands : List Command) → cut conn n None commands [] ≡ Some (record { closed = []; unfinished = None; strays = [] })
start_cut conn n [] = refl
start_cut conn n (c ∷ commands) = refl

pub at_start : (L : Language) → FitsAtStart L
at_start L conn commands older = record {
  walked = record { closed = []; unfinished = None; strays = [] };
  is_cut = start_cut conn (length older + 1) commands;
  strays = tt;
  older = older;
  older_length = refl;
  closed = [];
  rest = [];
  account = refl;
  each = tt;
  open_fits = refl;
}

module _ (L : Language) (conn before : ℕ) (earlier : List Command) (k : Command) (later : List Command) (replies : List Reply) (r : Reply) (txns : List Txn)
    (fits : Fits L conn before (earlier ++ k ∷ later) replies txns) (same : length replies ≡ length earlier) where
  next_is : (m : Move) → next_move fits.walked k later r ≡ m
      → cut conn (before + 1) None (earlier ++ k ∷ later) (replies ++ r ∷ []) ≡ after_move conn (before + 1) k m fits.walked
  next_is m is = next_cut conn (before + 1) None earlier k later replies r fits.walked same fits.is_cut
      ∙ ap (λ (move : Move). after_move conn (before + 1) k move fits.walked) is

  fits_next : NextReplyFits L conn before earlier k later replies r txns fits
  fits_next = record {
    left_out = λ is. record {
      walked = fits.walked;
      is_cut = next_is LeavesOut is;
      strays = fits.strays;
      older = fits.older;
      older_length = fits.older_length;
      closed = fits.closed;
      rest = fits.rest;
      account = fits.account;
      each = fits.each;
      open_fits = fits.open_fits;
    };
    outside = λ answer is refused. record {
      walked = record {
        closed = fits.walked.closed;
        unfinished = fits.walked.unfinished;
        strays = fits.walked.strays ++ record { command = k; answer = answer } ∷ [];
      };
      is_cut = next_is (Outside answer) is;
      strays = all_push IsRefusedOutside fits.walked.strays (record { command = k; answer = answer }) fits.strays refused;
      older = fits.older;
      older_length = fits.older_length;
      closed = fits.closed;
      rest = fits.rest;
      account = fits.account;
      each = fits.each;
      open_fits = fits.open_fits;
    };
    belongs = λ item rest is rest_fits. record {
      walked = record { closed = fits.walked.closed; unfinished = Some (items_of fits.walked.unfinished ++ item ∷ []); strays = fits.walked.strays };
      is_cut = next_is (Belongs item) is;
      strays = fits.strays;
      older = fits.older;
      older_length = fits.older_length;
      closed = fits.closed;
      rest = rest;
      account = refl;
      each = fits.each;
      open_fits = rest_fits;
    };
    closes = λ item close ending x is one. record {
      walked = record {
        closed = fits.walked.closed ++ next_closed conn (before + 1) fits.walked item close ending ∷ [];
        unfinished = None;
        strays = fits.walked.strays;
      };
      is_cut = next_is (Closes item close ending) is;
      strays = fits.strays;
      older = fits.older;
      older_length = fits.older_length;
      closed = fits.closed ++ x ∷ [];
      rest = [];
      account = newest_first fits.closed fits.older x;
      each = zip_push (FitsOne L) fits.walked.closed fits.closed (next_closed conn (before + 1) fits.walked item close ending) x fits.each one;
      open_fits = refl;
    };
  }

pub grows : (L : Language) → FitsGrows L
grows L conn before earlier k later replies r txns fits same = fits_next L conn before earlier k later replies r txns fits same
