use Rattle.std.proofs.Common.{◌≡◌, List, ℕ, ◌∙◌, subst}
use Rattle.ri_base.specs.Documents.{IsDocument}
use Rattle.memory_index.specs.Numbering.{IsNumbering}
use Rattle.memory_index.proofs.NamesLemmas.{AreNoted-names}
use Rattle.memory_index.proofs.mem_index.hold.Goals as goal

pub returns-clause-ok : goal.returns-clause-ok
returns-clause-ok c =
    let e : c.as_slice.result.now ≡ c.args.doc.now.tokens = c.as_slice.ensures ∙ c.tokens.ensures.tokens in
    record {
      held = record { docno = c.in_ok-docno.docno; tokens = c.in_ok-tokens.tokens; fields = c.in_ok-fields.fields };
      pushed = c.in_ok-push.ensures.items;
      docno = c.in_ok-docno.ensures ∙ c.docno.ensures;
      fields = c.in_ok-fields.ensures ∙ c.fields.ensures.fields;
      tokens = subst (λ (ts : List (List ℕ)). IsNumbering c.args.terms.now.keys c.numbered.new.terms.keys ts c.in_ok-tokens.tokens.items) e c.in_ok-tokens.ensures.numbered;
      noted = AreNoted-names _ _ _ c.args.doc.now.fields c.names.ensures c.in_ok-note_names.ensures.noted;
      form = subst (λ (ts : List (List ℕ)). IsDocument ts c.args.doc.now.fields) c.tokens.ensures.tokens c.tokens.ensures.form;
    }
