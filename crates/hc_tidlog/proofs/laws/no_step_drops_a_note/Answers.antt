-- Each kind of step adds a note or leaves all.
use Rattle.std.proofs.Common.{inr}
use Rattle.hc_tidlog.proofs.Noting.{keeps_saw, keeps_at_end, keeps_stored, keeps_stood}
use Rattle.hc_tidlog.proofs.laws.no_step_drops_a_note.Goals as goal

pub returns : goal.returns
returns c = record {
  load_page = λ place n v. (λ x there. there, λ x there. there);
  take_page = λ p next row v. (λ x there. there, λ x there. there);
  store_page = keeps_stored;
  store_row = λ p word n v. (λ x there. there, λ x there. there);
  load_log = λ kind conn place c id v. (keeps_at_end kind conn place v, (λ x there. there, λ x there. inr there));
  win_log = λ w other v. ((λ x there. there, λ x there. inr there), (λ x there. there, λ x there. inr there));
  load_tid = keeps_saw;
  draw = λ d v. (λ x there. there, λ x there. there);
  store_tid = λ form v. (λ x there. there, λ x there. there);
  store_seat = keeps_stood;
  deal = λ v. (λ x there. there, λ x there. there);
  learn = λ v w. (λ x there. there, λ x there. there);
}
