use Rattle.trace_board.proofs.board.TraceState.new.Goals as goal

pub returns : goal.returns
returns c = λ i. record {
  held = c.new-held.ensures i;
  waits = c.new-waits.ensures i;
  stands = c.new-stands.ensures i;
  opens = c.new-opens.ensures i;
  alerts = c.new-alerts.ensures i;
  rows = c.new-rows.ensures i;
  given = c.new-given.ensures i;
  taken = c.new-taken.ensures i;
  longest = c.new-longest.ensures i;
  latest = c.new-latest.ensures i;
  born = c.new-lives.ensures.born i;
  over = c.new-lives.ensures.over i;
}
