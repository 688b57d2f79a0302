use Rattle.std.proofs.Common.{◌≡◌, ◌++◌, take}
use Rattle.command_types.specs.Details.{lines_text}
use Rattle.compress_server.specs.Told.{reply_told}
use Rattle.compress_server.proofs.replay_text.push_replies.Given as goal

abbrev pub invariant-loop-reply : goal.invariant-loop-reply
invariant-loop-reply l = l.text.items ≡ l.fn.text.items ++ lines_text reply_told (take l.reply-index l.replies)
