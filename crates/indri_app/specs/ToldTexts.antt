-- What is written of what is told.
use Rattle.std.specs.Prelude.{ℕ, List, None}
use Rattle.command_pieces.specs.Written.{Plain}
use Rattle.desk.specs.Replied.{reply_text}
use Rattle.desk.specs.declared.reply.Reply.TheVariants as reply
use Rattle.desk.specs.Told.{Told, added, closed, deleted, ended, explained, extents, flushed, is_refusal, merged, merging, opened, refused, results, stepped, turned}
use Rattle.indri_app.specs.Explanations.{explanation_text}
use Rattle.indri_app.specs.Results.{answer_text}

-- the text of what is told
unfoldable pub told_text : Told → List ℕ
told_text (added docno tokens) = reply_text (reply.Added docno tokens)
told_text (deleted docno) = reply_text (reply.Deleted docno)
told_text (flushed live) = reply_text (reply.Flushed live)
told_text (merging size) = reply_text (reply.Merging size)
told_text (turned credit size) = reply_text (reply.Turned credit size)
told_text (merged live) = reply_text (reply.Merged live)
told_text (opened name live) = reply_text (reply.Opened name live)
told_text (stepped name credit live) = reply_text (reply.Stepped name credit live)
told_text (results name scale entries) = answer_text name scale entries
told_text (explained line) = explanation_text line
told_text (extents found) = reply_text (reply.Extents found)
told_text (closed name) = reply_text (reply.Closed name)
told_text (ended live) = reply_text (reply.Ended live)
told_text (refused why) = reply_text (reply.Refused why)

-- the piece of what is told
abbrev pub told_reply : Told → Plain
told_reply t = record { text = told_text t; is_refusal = is_refusal t; flushes = None }
