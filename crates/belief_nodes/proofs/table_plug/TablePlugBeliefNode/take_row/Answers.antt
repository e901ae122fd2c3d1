use Rattle.std.proofs.Common.{rules, ◌≡◌, ◌++◌, ◌∷◌, [], Some, None, is_some, true, false, ap, sym, ◌∙◌}
use Rattle.std.specs.HashMap.{get}
use Rattle.std.specs.Option.{option_map}
use Rattle.std.specs.Str.{bytes_eq}
use Rattle.ri_base.specs.Ratio.{ratio_of}
use Rattle.belief_nodes.specs.Plugs.{greatest_row, told_of}
use Rattle.belief_nodes.specs.Products.{greatest_of}
use Rattle.belief_nodes.proofs.Plugs.{greatest_first, greatest_more, row_there, told_inserted}
use Rattle.belief_nodes.proofs.table_plug.TablePlugBeliefNode.take_row.Goals as goal
use Rattle.belief_nodes.proofs.table_plug.TablePlugBeliefNode.take_row.Goals.{in-Some, in-None}

pub returns-then-contains_key-clause-repeated : goal.returns-then-contains_key-clause-repeated
returns-then-contains_key-clause-repeated c = let there = row_there (bytes_eq c.args.docno.now) c.args.self.now.rows.entries in search (rules, there)

pub returns-in_err-clone_in-clause-repeated : goal.returns-in_err-clone_in-clause-repeated
returns-in_err-clone_in-clause-repeated c = let there = row_there (bytes_eq c.args.docno.now) c.args.self.now.rows.entries in search (rules, there)

pub returns-in_err-map_err-clause-repeated : goal.returns-in_err-map_err-clause-repeated
returns-in_err-map_err-clause-repeated c = let there = row_there (bytes_eq c.args.docno.now) c.args.self.now.rows.entries in search (rules, there)

pub invariant_of-self-2 : goal.invariant_of-self-2
unfolding greatest_of
invariant_of-self-2 c =
    let docno = c.args.docno.now in
    let rows = c.args.self.now.rows in
    let f = c.args.f in
    let none : is_some (get bytes_eq rows docno) ≡ false = search rules in
    let pushed : told_of c.insert.new.self.entries ≡ told_of rows.entries ++ (docno, ratio_of f) ∷ [] = told_inserted rows c.insert.new.self.entries docno f none (search rules) in
    let told = told_of rows.entries in
    elim c.match-self.branch [
      | in-Some w ↦ record {
        kept =
            let before : Some (ratio_of w.in-Some.greatest) ≡ greatest_row told = sym (ap (option_map ratio_of) w.in-Some.is) ∙ c.args.self.now.kept in
            ap (option_map ratio_of) w.self-is ∙ ap Some w.greater.ensures ∙ greatest_more told (docno, ratio_of f) (ratio_of w.in-Some.greatest) before ∙ ap greatest_row (sym pushed);
      }
      | in-None w ↦ record {
        kept =
            let before : None ≡ greatest_row told = sym (ap (option_map ratio_of) w.in-None.is) ∙ c.args.self.now.kept in
            ap (option_map ratio_of) w.self-is ∙ greatest_first told (docno, ratio_of f) before ∙ ap greatest_row (sym pushed);
      }
    ]

pub returns-clause-taken : goal.returns-clause-taken
returns-clause-taken c =
    let docno = c.args.docno.now in
    let rows = c.args.self.now.rows in
    let f = c.args.f in
    let none : is_some (get bytes_eq rows docno) ≡ false = search rules in
    let pushed : told_of c.insert.new.self.entries ≡ told_of rows.entries ++ (docno, ratio_of f) ∷ [] = told_inserted rows c.insert.new.self.entries docno f none (search rules) in
    ap (λ r. record { rows = r; steps = []; rest = ratio_of c.args.self.now.rest; is_table = true }) pushed

pub returns-clause-repeated : goal.returns-clause-repeated
returns-clause-repeated c = let there = row_there (bytes_eq c.args.docno.now) c.args.self.now.rows.entries in search (rules, there)
