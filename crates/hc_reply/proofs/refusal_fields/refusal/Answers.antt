use Rattle.hc_reply.proofs.Lines.{refusal_found_at, refusal_fails_at}
use Rattle.hc_reply.proofs.refusal_fields.refusal.Goals as goal

pub returns-in-Bare-clause-found : goal.returns-in-Bare-clause-found
returns-in-Bare-clause-found c = refusal_found_at c.args.bytes.now c.bare.result c.in-Bare.is c.bare.ensures.found

pub returns-in-Bare-clause-stop : goal.returns-in-Bare-clause-stop
returns-in-Bare-clause-stop c = refusal_fails_at c.args.bytes.now c.bare.result c.in-Bare.is c.bare.ensures.stop

pub returns-in-Number-clause-found : goal.returns-in-Number-clause-found
returns-in-Number-clause-found c = refusal_found_at c.args.bytes.now c.with_number.result c.in-Number.is c.with_number.ensures.found

pub returns-in-Number-clause-stop : goal.returns-in-Number-clause-stop
returns-in-Number-clause-stop c = refusal_fails_at c.args.bytes.now c.with_number.result c.in-Number.is c.with_number.ensures.stop

pub returns-in-Name-clause-found : goal.returns-in-Name-clause-found
returns-in-Name-clause-found c = refusal_found_at c.args.bytes.now c.with_name.result c.in-Name.is c.with_name.ensures.found

pub returns-in-Name-clause-stop : goal.returns-in-Name-clause-stop
returns-in-Name-clause-stop c = refusal_fails_at c.args.bytes.now c.with_name.result c.in-Name.is c.with_name.ensures.stop

pub returns-in-Names-clause-found : goal.returns-in-Names-clause-found
returns-in-Names-clause-found c = refusal_found_at c.args.bytes.now c.with_names.result c.in-Names.is c.with_names.ensures.found

pub returns-in-Names-clause-stop : goal.returns-in-Names-clause-stop
returns-in-Names-clause-stop c = refusal_fails_at c.args.bytes.now c.with_names.result c.in-Names.is c.with_names.ensures.stop

pub returns-in-Numbers-clause-found : goal.returns-in-Numbers-clause-found
returns-in-Numbers-clause-found c = refusal_found_at c.args.bytes.now c.with_numbers.result c.in-Numbers.is c.with_numbers.ensures.found

pub returns-in-Numbers-clause-stop : goal.returns-in-Numbers-clause-stop
returns-in-Numbers-clause-stop c = refusal_fails_at c.args.bytes.now c.with_numbers.result c.in-Numbers.is c.with_numbers.ensures.stop

pub returns-in-NoItem-clause-found : goal.returns-in-NoItem-clause-found
returns-in-NoItem-clause-found c = refusal_found_at c.args.bytes.now c.no_item.result c.in-NoItem.is c.no_item.ensures.found

pub returns-in-NoItem-clause-stop : goal.returns-in-NoItem-clause-stop
returns-in-NoItem-clause-stop c = refusal_fails_at c.args.bytes.now c.no_item.result c.in-NoItem.is c.no_item.ensures.stop

pub returns-in-TooBig-clause-found : goal.returns-in-TooBig-clause-found
returns-in-TooBig-clause-found c = refusal_found_at c.args.bytes.now c.too_big.result c.in-TooBig.is c.too_big.ensures.found

pub returns-in-TooBig-clause-stop : goal.returns-in-TooBig-clause-stop
returns-in-TooBig-clause-stop c = refusal_fails_at c.args.bytes.now c.too_big.result c.in-TooBig.is c.too_big.ensures.stop

pub returns-in-Busy-clause-found : goal.returns-in-Busy-clause-found
returns-in-Busy-clause-found c = refusal_found_at c.args.bytes.now c.busy.result c.in-Busy.is c.busy.ensures.found

pub returns-in-Busy-clause-stop : goal.returns-in-Busy-clause-stop
returns-in-Busy-clause-stop c = refusal_fails_at c.args.bytes.now c.busy.result c.in-Busy.is c.busy.ensures.stop
