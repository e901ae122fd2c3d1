use Rattle.std.proofs.Common.{◌≡◌, ℕ, List, Some, IfOk, rules, sym, ◌∙◌, ap, subst}
use Rattle.ri_base.specs.Places.{places, places_from}
use Rattle.lone_document.specs.Known.{places_known}
use Rattle.lone_document.proofs.KnownLemmas.{alone, known_in, searched}
use Rattle.lone_document.proofs.lone_document.LoneDocument.places.Goals as goal

pub returns-in_ok-to_vec-in-Some : goal.returns-in_ok-to_vec-in-Some
returns-in_ok-to_vec-in-Some c =
    let t = c.args.term.now in
    let d = c.self.inside.doc.now in
    let found : places_known c.self.inside.known t ≡ Some c.in-Some.places.now = search rules in
    let copied : c.in_ok-to_vec-in-Some.field-0.items ≡ c.in-Some.places.now = search rules in
    c.of.ensures ∙ copied ∙ known_in (places_known c.self.inside.known) t c.in-Some.places.now d c.self.invariant found
    ∙ ap (places t) (sym (alone c.args.self.now d c.args._id (sym c.self.view_is) c.requires))

pub returns-in-None : goal.returns-in-None
returns-in-None c =
    let t = c.args.term.now in
    let d = c.self.inside.doc.now in
    subst (λ (l : List ℕ). IfOk c.places_among.result (λ ps. ps ≡ l))
    (ap (places_from 0 t) (c.as_slice.ensures ∙ c.tokens.ensures.tokens) ∙ searched t d ∙ ap (places t) (sym (alone c.args.self.now d c.args._id (sym c.self.view_is) c.requires)))
    c.places_among.ensures
