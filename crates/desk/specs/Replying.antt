-- What is replied by what a repository answers.
use Rattle.std.specs.Prelude.{ℕ, Result, Ok, Err}
use Rattle.ri_base.specs.declared.seg_fault.SegFault.{SegFault}
use Rattle.ri_base.specs.declared.seg_fault.SegFault.TheVariants as fault
use Rattle.holdings.specs.declared.refusals.AddRefusal.{AddRefusal}
use Rattle.holdings.specs.declared.refusals.AddRefusal.TheVariants as add
use Rattle.repository.specs.declared.turned.Turned.{Turned}
use Rattle.repository.specs.declared.turned.Turned.TheVariants as turn
use Rattle.desk.specs.declared.reply.Refusal.TheVariants as refusal
use Rattle.desk.specs.declared.reply.Reply.{Reply}
use Rattle.desk.specs.declared.reply.Reply.TheVariants as reply

-- a document that isn't added is refused so, or memory was wanting
abbrev pub not_added : AddRefusal → Result Reply SegFault
not_added (add.Repeated docno) = Ok (reply.Refused (refusal.Repeated docno))
not_added (add.CollectionFull docno) = Ok (reply.Refused (refusal.CollectionFull docno))
not_added add.Memory = Err fault.Memory

-- what became of a turn, where so many documents are live
abbrev pub turned_reply : Turned → ℕ → Reply
turned_reply (turn.Open credit size) live = reply.Turned credit size
turned_reply turn.Done live = reply.Merged live
