-- A pool may go to another thread. A search over all that it owns stops at its limits, so each row has a fact of its own.
use denote.Param.Send.{IsSend, sendable}
use Rattle.std.proofs.Crossing.{crosses}
use Rattle.record_pool.specs.contracts.appended.Appended as Appended
use Rattle.record_pool.specs.contracts.marks.Marks as Marks
use Rattle.record_pool.specs.contracts.opened.Opened as Opened
use Rattle.record_pool.specs.contracts.pages.Pages as Pages
use Rattle.record_pool.specs.contracts.pool.Pool as Pool

pages_send : IsSend Pages.the_row
pages_send = search (sendable, crosses) depth 60

marks_send : IsSend Marks.the_row
marks_send = search (sendable, crosses) depth 60

appended_send : IsSend Appended.the_row
appended_send = search (pages_send, marks_send, sendable, crosses) depth 60

opened_send : IsSend Opened.the_row
opened_send = search (marks_send, sendable, crosses) depth 60

pub pool_send : IsSend Pool.the_row
pool_send = search (opened_send, appended_send, sendable, crosses) depth 60
