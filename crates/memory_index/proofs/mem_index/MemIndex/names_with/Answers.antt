use Rattle.std.proofs.Common.{◌≡◌, ◌+◌, [], ◌∷◌, ◌++◌, length, not, ap, ◌∙◌, arith}
use Rattle.std.specs.List.{count_by}
use Rattle.std.specs.Set.{is_member}
use Rattle.std.specs.Str.{bytes_eq}
use Rattle.ri_base.specs.Collection.{name_count}
use Rattle.ri_base.specs.Inversion.{documents_of}
use Rattle.memory_index.specs.Kept.{Index}
use Rattle.memory_index.proofs.NamesLemmas.{name_count-with}
use Rattle.memory_index.proofs.mem_index.MemIndex.names_with.Goals as goal

pub returns : goal.returns
returns c =
    let ks = c.self.inside.names.keys in
    let docs = documents_of c.self.inside.terms.keys c.self.inside.docs.items in
    let whole : length ks + count_by (λ n. not (is_member bytes_eq ks n)) c.names.result.now ≡ name_count (docs ++ c.args.doc.now ∷ []) = name_count-with ks c.names.result.now docs c.args.doc.now c.len.ensures.unique c.names.ensures c.self.invariant.named in
    let sum : c.len.result + c.count_new.result ≡ length ks + count_by (λ n. not (is_member bytes_eq ks n)) c.names.result.now = omega (arith, c.len.ensures.len, c.count_new.ensures) in
    sum ∙ whole ∙ ap (λ (m : Index). name_count (m.documents ++ c.args.doc.now ∷ [])) c.self.view_is
