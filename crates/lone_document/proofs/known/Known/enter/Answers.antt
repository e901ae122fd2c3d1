use Rattle.std.proofs.Common.{◌≡◌, [], ℕ, List, Bool, true, false, Option, Some, Vec, Global, cond, refl, sym, ap, ◌∙◌}
use Rattle.std.specs.BTreeMap.{get}
use Rattle.std.specs.Cmp.Lexicographic.{slice_cmp, texts_ties}
use Rattle.std.specs.Option.{option_map}
use Rattle.std.specs.Ordering.{nat_cmp}
use Rattle.std.specs.Str.{bytes_eq}
use Rattle.lone_document.specs.Known.{places_known}
use Rattle.lone_document.proofs.KnownLemmas.{entered}
use Rattle.lone_document.proofs.known.Known.enter.Goals as goal

abbrev items : Option (Vec ℕ Global) → Option (List ℕ)
items = option_map (λ places. places.items)

choice : (b : Bool) (v : Vec ℕ Global) (old : Option (Vec ℕ Global)) → v.items ≡ [] → items (cond b (Some v) old) ≡ cond b (Some []) (items old)
choice true v old empty = ap Some empty
choice false v old empty = refl

pub returns : goal.returns
returns c =
    let x = c.args.term.now in
    entered x (places_known c.args.self.now) (places_known record { places = c.insert.new.self })
    (λ t. ap items (c.in_ok-insert.ensures.updates.0 t ∙ ap (λ b. cond b (Some c.new.result) (get (slice_cmp nat_cmp) c.args.self.now.places t)) (sym (texts_ties _ t) ∙ ap (λ k. bytes_eq k t) c.in_ok-clone_in.ensures))
    ∙ choice (bytes_eq x t) c.new.result (get (slice_cmp nat_cmp) c.args.self.now.places t) c.new.ensures.items)
