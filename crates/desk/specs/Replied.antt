-- What a reply tells, as text.
use Rattle.std.specs.Prelude.{◌≡◌, ◌≤◌, ℕ, Bool, true, false, List, [], ◌∷◌, None, codes, length}
use Rattle.std.specs.Fmt.{decimal}
use Rattle.std.specs.List.{All}
use Rattle.ri_base.specs.declared.hit.Hit.{Hit}
use Rattle.command_pieces.specs.Written.{Plain}
use Rattle.session_events.specs.declared.event.TheConstants.{MAX_RESULTS}
use Rattle.ranked_output.specs.Explained.{explained_text}
use Rattle.ranked_output.specs.Marks.{IsScale}
use Rattle.desk.specs.Lines.{credit_of, extents_text, reply_line, results_text, with_count, with_credit}
use Rattle.desk.specs.Refusals.{refusal_text}
use Rattle.desk.specs.declared.reply.Reply.{Reply}
use Rattle.desk.specs.declared.reply.Reply.TheVariants.{Added, Deleted, Flushed, Merging, Turned, Merged, Opened, Stepped, Results, Explained, Extents, Closed, Ended, Refused}

-- the text of a reply
unfoldable pub reply_text : Reply → List ℕ
reply_text (Added docno tokens) = reply_line (codes "added") (with_count docno tokens)
reply_text (Deleted docno) = reply_line (codes "deleted") docno
reply_text (Flushed live) = reply_line (codes "flushed") (decimal live)
reply_text (Merging size) = reply_line (codes "merging") (decimal size)
reply_text (Turned credit size) = reply_line (codes "turned") (credit_of credit size)
reply_text (Merged live) = reply_line (codes "merged") (decimal live)
reply_text (Opened name live) = reply_line (codes "opened") (with_count name live)
reply_text (Stepped name credit live) = reply_line (codes "stepped") (with_credit name credit live)
reply_text (Results name scale hits) = results_text name scale hits
reply_text (Explained e) = explained_text e
reply_text (Extents lines) = extents_text lines
reply_text (Closed name) = reply_line (codes "closed") name
reply_text (Ended live) = reply_line (codes "ended") (decimal live)
reply_text (Refused why) = refusal_text why

abbrev pub is_refused : Reply → Bool
is_refused (Refused why) = true
is_refused r = false

-- what is written of a reply
abbrev pub reply_piece : Reply → Plain
reply_piece r = record { text = reply_text r; is_refusal = is_refused r; flushes = None }

-- how many leaves the query of these results has
abbrev pub leaf_count : List Hit → ℕ
leaf_count [] = 0
leaf_count (hit ∷ hits) = length hit.fractions

-- The results are those of one query: no more than can be asked for, each with a belief for each leaf.
pub record AreResults (scale : ℕ) (hits : List Hit) : Type 0 where
  pub of_scale : IsScale scale
  pub few : length hits ≤ MAX_RESULTS
  pub leaves : All (λ hit. length hit.fractions ≡ leaf_count hits) hits

-- the numbers that its lines show are in their ranges
abbrev pub IsReply : Reply → Type 0
IsReply (Results name scale hits) = AreResults scale hits
IsReply (Explained e) = IsScale e.scale
IsReply r = Unit {0}
