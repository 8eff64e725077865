use Rattle.hc_reply.proofs.Lines.{found_at, fails_at}
use Rattle.hc_reply.proofs.output_line.read_fields.Goals as goal

pub returns-in-Conn-clause-found : goal.returns-in-Conn-clause-found
returns-in-Conn-clause-found c = found_at c.args.low c.args.bytes.now c.conn.result c.in-Conn.is c.conn.ensures.found

pub returns-in-Conn-clause-stop : goal.returns-in-Conn-clause-stop
returns-in-Conn-clause-stop c = fails_at c.args.low c.args.bytes.now c.conn.result c.in-Conn.is c.conn.ensures.stop

pub returns-in-Row-clause-found : goal.returns-in-Row-clause-found
returns-in-Row-clause-found c = found_at c.args.low c.args.bytes.now c.row_line.result c.in-Row.is c.row_line.ensures.found

pub returns-in-Row-clause-stop : goal.returns-in-Row-clause-stop
returns-in-Row-clause-stop c = fails_at c.args.low c.args.bytes.now c.row_line.result c.in-Row.is c.row_line.ensures.stop

pub returns-in-Ok-clause-found : goal.returns-in-Ok-clause-found
returns-in-Ok-clause-found c = found_at c.args.low c.args.bytes.now c.count.result c.in-Ok.is c.count.ensures.found

pub returns-in-Ok-clause-stop : goal.returns-in-Ok-clause-stop
returns-in-Ok-clause-stop c = fails_at c.args.low c.args.bytes.now c.count.result c.in-Ok.is c.count.ensures.stop

pub returns-in-Ending-clause-found : goal.returns-in-Ending-clause-found
returns-in-Ending-clause-found c = found_at c.args.low c.args.bytes.now c.ending.result c.in-Ending.is c.ending.ensures.found

pub returns-in-Ending-clause-stop : goal.returns-in-Ending-clause-stop
returns-in-Ending-clause-stop c = fails_at c.args.low c.args.bytes.now c.ending.result c.in-Ending.is c.ending.ensures.stop

pub returns-in-Refusal-clause-found : goal.returns-in-Refusal-clause-found
returns-in-Refusal-clause-found c = found_at c.args.low c.args.bytes.now c.error.result c.in-Refusal.is c.error.ensures.found

pub returns-in-Refusal-clause-stop : goal.returns-in-Refusal-clause-stop
returns-in-Refusal-clause-stop c = fails_at c.args.low c.args.bytes.now c.error.result c.in-Refusal.is c.error.ensures.stop
