-- A transaction from its last read to its end.
use Rattle.std.proofs.Common.{◌≡◌, ◌≢◌, refl, sym, subst, ℕ, List, [], ◌∷◌, inl, inr, ◌⊎◌}
use Rattle.hc_range.specs.declared.range.Range.{Range}
use Rattle.hc_base.specs.Lookup.{Among}
use Rattle.hc_base.specs.declared.numbers.Cid.{Cid}
use Rattle.hc_core.specs.Account.{Txn, WhenOpen, part_of, after_check, after_decide, after_propose, after_put, txns}
use Rattle.hc_core.specs.Desk.{AreAscendingWrites, EachFits, MayEndNow}
use Rattle.hc_core.specs.Diary.{entry_of}
use Rattle.hc_core.specs.declared.account.Entry.{Entry}
use Rattle.hc_core.specs.declared.cells.Write.{Write}
use Rattle.hc_core.specs.declared.event.Event.TheVariants.{Propose, Put}
use Rattle.hc_core.specs.declared.outcome.Met.{Met as MetRecord}
use Rattle.hc_core.specs.declared.outcome.Outcome.TheVariants.{Decided, Done, Met, Proposed}
use Rattle.hc_txn.specs.Transactions.{IsLogOf, IsOf, Transaction, reads_of}
use Rattle.hc_transcript.specs.declared.reply.Ending.TheVariants.{Commit, Snapshot}
use Rattle.hc_txn.specs.Net.{AreNetWrites}
use Rattle.hc_txn.specs.Stores.{Store, Agrees}
use Rattle.hc_commit.specs.declared.committing.CommitFault.{CommitFault}
use Rattle.hc_commit.specs.Commit.{AreNetWritesOf, HasCommitted, HasFailed, HasGivenUp, HasSucceeded}
use Rattle.hc_commit.specs.Checks.{HasSettled}
use Rattle.hc_commit.specs.declared.proposal.Proposal.TheVariants.{Won, Refused}
use Rattle.hc_commit.specs.Entries.{LostProposal, with_checks, with_lost, with_proposal, with_puts}
use Rattle.hc_commit.specs.Stages.{HasAllPut, HasPut, IsReady, IsRoomy}
use Rattle.hc_reads.specs.Gathered.{HaveSameKeys}
use Rattle.hc_commit.proofs.SameLog.{committed_same, given_up_same}
use Rattle.hc_commit.proofs.Growing.{when_changed, when_open, checks_keep, lost_keep}
use Rattle.hc_commit.proofs.Putting.{HasPutSome, among_reversed, none_put, puts_stage}

pub may_propose : (writes : List Write) (log : List Range) (account : List Entry) → WhenOpen (txns account) (IsReady writes log) → WhenOpen (txns account) (HasAllPut log)
may_propose writes log account = when_open (IsReady writes log) (HasAllPut log) (txns account) (λ t h. record {
  id = h.id;
  room = h.room;
  undecided = h.undecided;
  put = λ w a. (w.rec, subst (λ (ws : List Write). Among w ws) (sym h.put) (among_reversed w writes (subst (λ (ws : List Write). Among w ws) h.reserved a)));
  read = h.read;
})

-- all that is put
pub has_put : (writes : List Write) (log : List Range) (account : List Entry) → WhenOpen (txns account) (IsReady writes log) → WhenOpen (txns account) (HasPut writes)
has_put writes log account = when_open (IsReady writes log) (HasPut writes) (txns account) (λ t h. (h.undecided, h.put))

-- nothing is said of it
abbrev Whatever : Txn → Type 0
Whatever t = Unit {0}

-- it stays so while it proposes
pub ready_lost : (conn : ℕ) (writes : List Write) (log : List Range) (ps : List LostProposal) (account : List Entry) → WhenOpen (txns account) (IsReady writes log)
    → WhenOpen (txns (with_lost conn ps account)) (IsReady writes log)
ready_lost conn writes log ps account =
    lost_keep conn (IsReady writes log) ps account
    (λ part t h. record { id = h.id; room = h.room; undecided = h.undecided; reserved = h.reserved; put = h.put; read = h.read })
    (λ n t h. record { id = h.id; room = h.room; undecided = h.undecided; reserved = h.reserved; put = h.put; read = h.read })
    (λ p t h. record { id = h.id; room = h.room; undecided = h.undecided; reserved = h.reserved; put = h.put; read = h.read })

-- a fact that a put leaves stays while writes are put
puts_keep : (conn : ℕ) (P : Txn → Type 0) (ws : List Write) (account : List Entry) → ((w : Write) (t : Txn) → P t → P (after_put w.key w.rec Done t))
    → WhenOpen (txns account) P → WhenOpen (txns (with_puts conn ws account)) P
puts_keep conn P [] account keeps h = h
puts_keep conn P (w ∷ ws) account keeps h =
    puts_keep conn P ws (entry_of (Put conn w.key w.rec) Done ∷ account) keeps (when_changed (after_put w.key w.rec Done) P P (txns account) (λ t live p. (live, keeps w t p)) h)

when_both : (P Q : Txn → Type 0) (ts : List Txn) → WhenOpen ts P → WhenOpen ts Q → WhenOpen ts (λ t. P t × Q t)
when_both P Q [] p q = p
when_both P Q (t ∷ ts) p q = (p.0, (p.1, q.1))

-- all writes were put
pub puts_ready : (conn : ℕ) (writes : List Write) (log : List Range) (account : List Entry) → WhenOpen (txns account) (IsRoomy writes log)
    → WhenOpen (txns (with_puts conn writes account)) (IsReady writes log)
puts_ready conn writes log account h =
    let put = puts_stage conn writes writes [] account (when_open (IsRoomy writes log) (HasPutSome writes []) (txns account) (λ t r. none_put writes t r.0) h) in
    let read = puts_keep conn (λ t. IsLogOf t.reads log) writes account (λ w t p. p) (when_open (IsRoomy writes log) (λ t. IsLogOf t.reads log) (txns account) (λ t r. r.1) h) in
    when_open (λ t. HasPutSome writes writes t × IsLogOf t.reads log) (IsReady writes log) (txns (with_puts conn writes account))
    (λ t r. record { id = r.0.id; room = r.0.room; undecided = r.0.undecided; reserved = r.0.reserved; put = r.0.standing; read = r.1 })
    (when_both (HasPutSome writes writes) (λ t. IsLogOf t.reads log) (txns (with_puts conn writes account)) put read)

-- where a check was refused, all is put still
pub refused_ready : (conn : ℕ) (writes : List Write) (log : List Range) (most : ℕ) (met : MetRecord) (before after : List Entry) → HasSettled conn log most (Refused met) before after
    → WhenOpen (txns before) (IsReady writes log) → WhenOpen (txns after) (IsReady writes log)
refused_ready conn writes log most met before after settled h =
    let lost = ready_lost conn writes log settled.lost before h in
    let m = settled.last.1 in
    let proposed = when_changed (after_propose (Proposed (record { 0 = settled.last.0 }))) (IsReady writes log) (IsReady writes log) (txns (with_lost conn settled.lost before))
    (λ t live r. (live, record { id = r.id; room = r.room; undecided = r.undecided; reserved = r.reserved; put = r.put; read = r.read })) lost in
    let checked = checks_keep conn (IsReady writes log) m.parts (entry_of (Propose conn) (Proposed (record { 0 = settled.last.0 })) ∷ with_lost conn settled.lost before)
    (λ part t r. record { id = r.id; room = r.room; undecided = r.undecided; reserved = r.reserved; put = r.put; read = r.read }) proposed in
    subst (λ (a : List Entry). WhenOpen (txns a) (IsReady writes log)) (sym m.grown)
    (when_changed (after_check (part_of m.from m.upto) (Met met)) (IsReady writes log) (IsReady writes log)
    (txns (with_checks conn m.parts (entry_of (Propose conn) (Proposed (record { 0 = settled.last.0 })) ∷ with_lost conn settled.lost before)))
    (λ t live r. (live, record { id = r.id; room = r.room; undecided = r.undecided; reserved = r.reserved; put = r.put; read = r.read })) checked)

-- where it was decided, it may end
pub won_may_end : (conn : ℕ) (writes : List Write) (log : List Range) (most : ℕ) (number : Cid) (before after : List Entry) → HasSettled conn log most (Won number) before after
    → number.0 ≢ 0 → WhenOpen (txns before) (IsReady writes log) → MayEndNow after
won_may_end conn writes log most number before after settled some h =
    let lost = when_open (IsReady writes log) Whatever (txns (with_lost conn settled.lost before)) (λ t r. tt) (ready_lost conn writes log settled.lost before h) in
    let proposed = when_changed (after_propose (Proposed (record { 0 = number.0 }))) Whatever Whatever (txns (with_lost conn settled.lost before)) (λ t live r. (live, tt)) lost in
    let checked = checks_keep conn Whatever settled.last.0 (entry_of (Propose conn) (Proposed (record { 0 = number.0 })) ∷ with_lost conn settled.lost before) (λ part t r. tt) proposed in
    subst MayEndNow (sym settled.last.2)
    (when_changed (after_decide (Decided number)) Whatever (λ t. (t.place ≢ 0) ⊎ (t.write_set ≡ [])) (txns (with_proposal conn number.0 settled.last.0 (with_lost conn settled.lost before)))
    (λ t live r. (live, inl some)) checked)

-- what a transaction that is of a desk has to commit
pub net_of : (account : List Entry) (txn : Transaction) (writes : List Write) → IsOf account txn → AreAscendingWrites writes → EachFits writes
    → ((a : List Entry) → IsOf a txn → (store : Store) → Agrees (reads_of a) store → AreNetWrites txn.own store writes) → AreNetWritesOf account txn writes
net_of account txn writes of ascending fit net = record { net = λ store agrees. net account of store agrees; ascending = ascending; fit = fit }

pub failed : (conn ord most : ℕ) (txn : Transaction) (log : List Range) (writes : List Write) (fault : CommitFault) (before after : List Entry) → HaveSameKeys txn.log log → AreNetWritesOf before txn writes
    → writes ≢ [] → HasGivenUp conn ord most log writes fault before after → HasFailed conn ord most txn fault before after
failed conn ord most txn log writes fault before after same net some h =
    inr (writes, net, some, given_up_same txn.log log same conn ord most writes fault before after h)

pub succeeded : (conn ord most : ℕ) (txn : Transaction) (log : List Range) (writes : List Write) (number : Cid) (before after : List Entry) → HaveSameKeys txn.log log → AreNetWritesOf before txn writes
    → writes ≢ [] → HasCommitted conn ord most log writes number before after → HasSucceeded conn ord most txn (Commit number.0) before after
succeeded conn ord most txn log writes number before after same net some h =
    (writes, net, some, committed_same txn.log log same conn ord most writes number before after h)

pub nothing_done : (conn ord most : ℕ) (txn : Transaction) (snapshot : ℕ) (writes : List Write) (account : List Entry) → snapshot ≡ txn.snapshot → AreNetWritesOf account txn writes → writes ≡ []
    → HasSucceeded conn ord most txn (Snapshot snapshot) account account
nothing_done conn ord most txn snapshot writes account same net none = (same, subst (AreNetWritesOf account txn) none net, refl)
