use Rattle.std.proofs.Common.{◌≡◌, ◌<◌, ◌==◌, List, [], ℕ, Some, Option, get_or, sym, ap, subst, ◌∙◌}
use Rattle.std.specs.List.{AllPairs, find}
use Rattle.std.specs.Option.{option_and_then}
use Rattle.std.specs.Str.{bytes_eq}
use Rattle.std.proofs.lemmas.List.{get_or-map}
use Rattle.seg_codec.specs.declared.dictionary.BlockPlace.{BlockPlace}
use Rattle.seg_codec.specs.declared.dictionary.TermBlocks.{TermBlocks}
use Rattle.disk_index.specs.Kept.{place_in}
use Rattle.disk_index.specs.Ranks.{term_of}
use Rattle.disk_index.proofs.LookupLemmas.{term_at-own}
use Rattle.disk_index.proofs.lookup.ranked_place.Goals as goal

pub block_in-requires : goal.block_in-requires
block_in-requires c =
    let own = c.requires.places c.args.rank c.index-dictionary-rank.result c.requires.inside in
    subst (λ (l : List BlockPlace). AllPairs (λ (a b : BlockPlace). a.range < b.range) l) (sym c.as_slice.ensures) own.rising

pub returns : goal.returns
returns c =
    let ts : List TermBlocks = c.args.dictionary.now in
    let k = c.args.rank in
    let t : TermBlocks = c.index-dictionary-rank.result in
    let found : find (λ (y : TermBlocks). bytes_eq y.term (term_of ts k)) ts ≡ Some (get_or ts k t) =
    ap (λ (u : List ℕ). find (λ (y : TermBlocks). bytes_eq y.term u) ts) (get_or-map (λ (y : TermBlocks). y.term) ts k t [] c.requires.inside)
    ∙ term_at-own ts k t c.requires.terms c.requires.inside in
    c.block_in.ensures ∙ ap (λ (l : List BlockPlace). find (λ b. b.range == c.args.range) l) c.as_slice.ensures ∙ sym (ap (λ (o : Option TermBlocks). option_and_then (place_in c.args.range) o) found)
