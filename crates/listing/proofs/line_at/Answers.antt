-- `listing::line_at` meets its contract: by the line's number. Assumes nothing.
use Rattle.listing.specs.Listing.{line_at}
use Rattle.records.specs.Records.{hub_at}
use borrow.Author.Tests.{le-leb, lt-leb, ne_eqb}
use Rattle.listing.proofs.line_at.Goals as goal

pub returns-then-k-eq0 : goal.returns-then-k-eq0
unfolding line_at
returns-then-k-eq0 c = rw c.if-k-eq0.true

pub returns-then-k-n : goal.returns-then-k-n
unfolding line_at
returns-then-k-n c = rw (ne_eqb _ 0 c.if-k-eq0.false, le-leb _ _ c.if-k-n.true, c.field-priority.ensures)

pub returns : goal.returns
unfolding hub_at line_at
returns c = rw (ne_eqb _ 0 c.if-k-eq0.false, lt-leb _ _ c.if-k-n.false, c.hub-h.ensures, c.hubs_at.ensures)
