use Rattle.std.proofs.Common.{◌≡◌, ◌<◌, List, ℕ, [], length, get_or, sym, ◌∙◌, ap, subst}
use Rattle.std.specs.List.{All}
use Rattle.std.proofs.lemmas.List.{length-map, length-replicate}
use Rattle.ri_base.specs.Inversion.{by_number}
use Rattle.memory_index.specs.Inverts.{AreAllSpread, terms_of}
use Rattle.memory_index.specs.declared.numbered.Numbered.{Numbered}
use Rattle.memory_index.proofs.InvertLemmas.{Inverts-made}
use Rattle.memory_index.proofs.inversion.invert.Goals as goal

pub returns : goal.returns
returns c =
    let s = c.in_ok-sorted.sorted.items in
    let ranks = c.in_ok-ranks.ranks.items in
    let named : by_number (terms_of s) ranks ≡ c.args.terms.now = subst (λ (l : List Numbered). by_number (terms_of l) ranks ≡ c.args.terms.now) c.deref.ensures.value c.in_ok-ranks.ensures.named in
    let ranked : All (λ r. r < length s) ranks = subst (λ (l : List Numbered). All (λ r. r < length l) ranks) c.deref.ensures.value c.in_ok-ranks.ensures.ranked in
    let rlen : length ranks ≡ length s = sym (length-map ranks (λ r. get_or (terms_of s) r [])) ∙ ap length named ∙ sym c.in_ok-sorted.ensures.same_length in
    let plen : length c.in_ok-postings.postings.items ≡ length s =
    ap length c.in_ok-postings.ensures ∙ length-replicate (length c.deref-3.result.now) [] ∙ ap length c.deref-3.ensures.value ∙ c.in_ok-counts.ensures ∙ ap length c.deref-2.ensures.value ∙ rlen in
    let spread : AreAllSpread c.spread.new.postings.items (length s) ranks c.args.docs.now =
    subst (λ n. AreAllSpread c.spread.new.postings.items n ranks c.args.docs.now) plen
    (subst (λ (r : List ℕ). AreAllSpread c.spread.new.postings.items (length c.in_ok-postings.postings.items) r c.args.docs.now) c.deref-4.ensures.value c.in_ok-spread.ensures) in
    Inverts-made c.args.terms.now c.args.docs.now s ranks c.spread.new.postings.items c.in_ok-vocabulary_of.field-0 c.in_ok-vocabulary_of.ensures c.in_ok-sorted.ensures named ranked spread c.requires.numbers
