use Rattle.std.proofs.Common.{◌≡◌, ◌+◌, ◌∙◌, ◌++◌, ◌∷◌, [], ℕ, List, Some, None, length, cond, ap}
use Rattle.std.specs.Map.{lookup}
use Rattle.std.specs.Str.{bytes_eq}
use Rattle.holdings.specs.Parts.{Parts, is_live, live, parts_of}
use Rattle.holdings.specs.declared.spot.Spot.{Spot}
use Rattle.holdings.proofs.KeptLemmas.{last-whole, live-from_lookup, none-from_not}
use Rattle.holdings.proofs.RoomLemmas.{AreKept-with_document, live-with_document}
use Rattle.holdings.proofs.live_parts.LiveParts.put.Goals as goal

pub hold-requires-clause-whole : goal.hold-requires-clause-whole
hold-requires-clause-whole c = last-whole c.self.inside.closed.items c.self.inside.filling.documents c.self.inside.marks c.self.invariant.whole

pub insert-requires-clause-absent : goal.insert-requires-clause-absent
insert-requires-clause-absent c =
    let k = c.args.doc.now.docno in
    let same : c.in_ok-docno.docno ≡ k = c.in_ok-docno.ensures ∙ c.docno.ensures in
    let none : lookup (bytes_eq k) c.self.inside.places.entries ≡ None =
    none-from_not _ (live-from_lookup _ _ _ c.self.invariant k ∙ ap (λ (p : Parts). is_live p k) c.self.view_is ∙ c.requires.absent) in
    ap (λ (n : List ℕ). lookup (bytes_eq n) c.reserve.new.self.entries) same ∙ ap (λ (es : List (List ℕ × Spot)). lookup (bytes_eq k) es) c.reserve.ensures.entries ∙ none

pub invariant_of-self-2 : goal.invariant_of-self-2
invariant_of-self-2 c =
    let k = c.args.doc.now.docno in
    let s = c.in_ok-spot.spot in
    let old = c.self.inside.places.entries in
    let same : c.in_ok-docno.docno ≡ k = c.in_ok-docno.ensures ∙ c.docno.ensures in
    let none : lookup (bytes_eq k) old ≡ None =
    none-from_not _ (live-from_lookup _ _ _ c.self.invariant k ∙ ap (λ (p : Parts). is_live p k) c.self.view_is ∙ c.requires.absent) in
    let put : (q : List ℕ) → lookup (bytes_eq q) c.insert.new.places.entries ≡ cond (bytes_eq k q) (Some s) (lookup (bytes_eq q) old) =
    λ q. c.insert.ensures.put q ∙ ap (λ (n : List ℕ). cond (bytes_eq n q) (Some s) (lookup (bytes_eq q) c.reserve.new.self.entries)) same
    ∙ ap (λ (es : List (List ℕ × Spot)). cond (bytes_eq k q) (Some s) (lookup (bytes_eq q) es)) c.reserve.ensures.entries in
    let long : length c.insert.new.places.entries ≡ length old + 1 = c.insert.ensures.len ∙ ap (λ (es : List (List ℕ × Spot)). length es + 1) c.reserve.ensures.entries in
    AreKept-with_document old c.insert.new.places.entries (parts_of c.self.inside.closed.items c.self.inside.filling c.self.inside.marks)
    (parts_of c.hold.new.closed.items c.hold.new.filling c.hold.new.marks) c.args.doc.now s c.self.invariant none put long
    c.in_ok-spot.ensures.part c.in_ok-spot.ensures.id c.in_ok-spot.ensures.held c.in_ok-spot.ensures.writable

pub returns-clause-live : goal.returns-clause-live
returns-clause-live c = λ told.
    live-with_document told _ (parts_of c.self.inside.closed.items c.self.inside.filling c.self.inside.marks) _ c.args.doc.now c.self.invariant c.in_ok-spot.ensures.held
    ∙ ap (λ (p : Parts). live told p ++ c.args.doc.now ∷ []) c.self.view_is
