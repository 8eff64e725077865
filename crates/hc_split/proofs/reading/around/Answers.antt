-- The search tells it.
use Rattle.hc_page.proofs.Putting.{around_at, around_before}
use Rattle.hc_split.proofs.reading.around.Goals as goal

pub returns-in-At : goal.returns-in-At
returns-in-At c = record { around = λ d page. around_at d.entries c.args.key.now c.in-At.slot page.content.ascending (c.in-At.ensures.found d page) }

pub returns-in-Before : goal.returns-in-Before
returns-in-Before c = record { around = λ d page. around_before d.entries c.args.key.now c.in-Before.slot (c.in-Before.ensures.found d page) }
