use Rattle.std.proofs.Common.{rules, ◌≡◌, ◌+◌, ◌∙◌, ◌++◌, ◌∷◌, [], ℕ, List, map, take, sym, ap}
use Rattle.std.proofs.lemmas.List.{map-append, take_all, take_more}
use Rattle.range_bounds.specs.Most.{capped}
use Rattle.range_bounds.specs.Ranges.{most_begins}
use Rattle.range_tables.specs.Sections.{section}
use Rattle.range_tables.proofs.sections.all_most_begins.Goals as goal

pub loop-name-preserved : goal.loop-name-preserved
loop-name-preserved g c =
    let docs = g.P.Postings.documents c.args.part.now in
    let f : List ℕ → ℕ = λ t. capped (most_begins (section docs c.args.first c.args.end) t) in
    let names = c.args.names.now in
    let i = c.loop-name.name-index in
    let name = c.name-item.result in
    let whole : take (i + 1) names ≡ take i names ++ name ∷ [] = take_more names i name c.loop-name-test.true ∙ ap (λ x. take i names ++ x ∷ []) (sym c.name-item.is) in
    let pushed : c.push.new.self.items ≡ c.loop-name.all.items ++ c.most_begins.result ∷ [] = search rules in
    pushed ∙ ap (λ l. l ++ c.most_begins.result ∷ []) c.loop-name.invariant ∙ ap (λ n. map f (take i names) ++ n ∷ []) c.most_begins.ensures ∙ sym (ap (map f) whole ∙ map-append f (take i names) (name ∷ []))

pub returns : goal.returns
returns g c =
    let docs = g.P.Postings.documents c.args.part.now in
    c.loop-name.invariant ∙ ap (map (λ t. capped (most_begins (section docs c.args.first c.args.end) t))) (take_all c.loop-name.name-index c.args.names.now c.loop-name-test.false)
