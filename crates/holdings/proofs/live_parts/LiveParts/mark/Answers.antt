use Rattle.std.proofs.Common.{◌≡◌, ◌∙◌, ap, sym, subst, List, Some, None, Option}
use Rattle.std.specs.Map.{lookup}
use Rattle.std.specs.Prelude.{is_some}
use Rattle.std.specs.Str.{bytes_eq}
use Rattle.disk_index.specs.Snapshots.{Marked}
use Rattle.holdings.specs.Kept.{AreKept}
use Rattle.holdings.specs.MarkedParts.{IsWhole, filled}
use Rattle.holdings.specs.Parts.{Parts, all_parts, is_live, parts_of, without_docno}
use Rattle.holdings.specs.declared.spot.Spot.{Spot}
use Rattle.holdings.proofs.KeptLemmas.{All-front, AreKept-mark, live-from_lookup, mark-room, once-kept}
use Rattle.holdings.proofs.MarkLemmas.{marked_at-marked_with}
use Rattle.holdings.proofs.RoomLemmas.{without_docno-seen}
use Rattle.holdings.proofs.live_parts.LiveParts.mark.Goals as goal

pub mark_at-requires-clause-whole : goal.mark_at-requires-clause-whole
mark_at-requires-clause-whole c = All-front IsWhole c.self.inside.closed.items (filled c.self.inside.filling.documents c.self.inside.marks) c.self.invariant.whole

pub mark_at-requires-clause-room : goal.mark_at-requires-clause-room
mark_at-requires-clause-room c =
    let was : lookup (bytes_eq c.args.docno.now) c.self.inside.places.entries ≡ Some c.in-Some.spot = sym c.swap_remove.ensures.value ∙ c.in-Some.is in
    mark-room c.self.inside.closed.items c.self.inside.filling.documents c.self.inside.marks c.in-Some.spot.part c.in-Some.spot.id c.args.docno.now ((c.self.invariant.placed c.args.docno.now c.in-Some.spot).0 was)

pub invariant_of-self-in-Some : goal.invariant_of-self-in-Some
invariant_of-self-in-Some c =
    let was : lookup (bytes_eq c.args.docno.now) c.self.inside.places.entries ≡ Some c.in-Some.spot = sym c.swap_remove.ensures.value ∙ c.in-Some.is in
    subst (λ (ps : List Marked). AreKept c.self.inside.filling.most c.swap_remove.new.self.entries ps) (sym (c.mark_at.ensures c.self.inside.filling.documents))
    (AreKept-mark _ _ _ _ c.args.docno.now c.in-Some.spot c.self.invariant was c.swap_remove.ensures.updates.0 c.in-Some.ensures.len)

pub returns-in-None-clause-found : goal.returns-in-None-clause-found
returns-in-None-clause-found c =
    let was : lookup (bytes_eq c.args.docno.now) c.self.inside.places.entries ≡ None = sym c.swap_remove.ensures.value ∙ c.in-None.is in
    sym (ap (λ (o : Option Spot). is_some o) was) ∙ live-from_lookup _ _ _ c.self.invariant c.args.docno.now ∙ ap (λ (p : Parts). is_live p c.args.docno.now) c.self.view_is

pub returns-in-Some-clause-found : goal.returns-in-Some-clause-found
returns-in-Some-clause-found c =
    let was : lookup (bytes_eq c.args.docno.now) c.self.inside.places.entries ≡ Some c.in-Some.spot = sym c.swap_remove.ensures.value ∙ c.in-Some.is in
    sym (ap (λ (o : Option Spot). is_some o) was) ∙ live-from_lookup _ _ _ c.self.invariant c.args.docno.now ∙ ap (λ (p : Parts). is_live p c.args.docno.now) c.self.view_is

pub returns-in-Some-clause-marked : goal.returns-in-Some-clause-marked
returns-in-Some-clause-marked c = λ _.
    let k = c.args.docno.now in
    let s = c.in-Some.spot in
    let p = parts_of c.self.inside.closed.items c.self.inside.filling c.self.inside.marks in
    let was : lookup (bytes_eq k) c.self.inside.places.entries ≡ Some s = sym c.swap_remove.ensures.value ∙ c.in-Some.is in
    without_docno-seen p k c.mark_at.new.closed.items c.mark_at.new.marks
    (c.mark_at.ensures c.self.inside.filling.documents ∙ marked_at-marked_with k (all_parts p) s.part s.id ((c.self.invariant.placed k s).0 was) (once-kept _ _ _ k s c.self.invariant was))
    ∙ ap (λ (q : Parts). without_docno q k) c.self.view_is
