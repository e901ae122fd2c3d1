use Rattle.std.proofs.Common.{◌≡◌, ◌++◌, ◌∷◌, [], ℕ, List, Option, Some, None, Vec, Global, cond, sym, ap, ◌∙◌, rules}
use Rattle.std.specs.BTreeMap.{get}
use Rattle.std.specs.Cmp.Lexicographic.{slice_cmp, texts_ties}
use Rattle.std.specs.Option.{option_map}
use Rattle.std.specs.Ordering.{nat_cmp}
use Rattle.lone_document.specs.Known.{places_known}
use Rattle.lone_document.proofs.KnownLemmas.{noted, passed}
use Rattle.lone_document.proofs.known.Known.note.Goals as goal

abbrev items : Option (Vec ℕ Global) → Option (List ℕ)
items = option_map (λ places. places.items)

pub returns-in_ok-push : goal.returns-in_ok-push
returns-in_ok-push c = λ tokens is known.
    let x = c.args.token.now in
    let writes = ((c.get_mut.follows.holds c.push.new.self).3) (search rules) in
    let old : places_known c.args.self.now x ≡ Some c.in-Some.places.now.items = search rules in
    noted x tokens (places_known c.args.self.now) (places_known record { places = c.get_mut.follows.lender c.push.new.self }) c.in-Some.places.now.items
    (λ t e. ap {A = Option (Vec ℕ Global)} items (writes.0 t ∙ ap (λ b. cond b (Some c.push.new.self) (get (slice_cmp nat_cmp) c.args.self.now.places t)) (sym (texts_ties x t) ∙ e))
    ∙ ap Some (c.in_ok-push.ensures.items ∙ ap (λ n. c.in-Some.places.now.items ++ n ∷ []) is))
    (λ t e. ap {A = Option (Vec ℕ Global)} items (writes.2 t (sym (texts_ties x t) ∙ e)))
    old known

pub returns-in_default : goal.returns-in_default
returns-in_default c = λ tokens is known.
    let none : places_known c.args.self.now c.args.token.now ≡ None = search rules in
    rw c.get_mut.follows.holds-at-none (passed c.args.token.now tokens (places_known c.args.self.now) none known)
