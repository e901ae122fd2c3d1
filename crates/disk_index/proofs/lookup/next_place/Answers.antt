use Rattle.std.proofs.Common.{◌<◌, ◌==◌, List, is_some, ap, sym, subst, ◌∙◌}
use Rattle.std.specs.List.{AllPairs, find}
use Rattle.std.specs.Option.{option_and_then}
use Rattle.std.specs.Str.{bytes_eq}
use Rattle.seg_codec.specs.declared.dictionary.BlockPlace.{BlockPlace}
use Rattle.seg_codec.specs.declared.dictionary.TermBlocks.{TermBlocks}
use Rattle.disk_index.specs.Kept.{ArePlaces, place_in}
use Rattle.disk_index.proofs.LookupLemmas.{find-has}
use Rattle.disk_index.proofs.NextLemmas.{IsNext-same}
use Rattle.disk_index.proofs.lookup.next_place.Goals as goal

pub next_in-requires : goal.next_in-requires
next_in-requires c =
    let found = find-has ArePlaces (λ (t : TermBlocks). bytes_eq t.term c.args.term.now) c.args.dictionary.now c.in-Some.found.now c.requires.places (sym c.in-Some.ensures) in
    subst (λ (l : List BlockPlace). AllPairs (λ (a b : BlockPlace). a.range < b.range) l) (sym c.as_slice.ensures) found.0.rising

pub returns-in-Some : goal.returns-in-Some
returns-in-Some c =
    IsNext-same _ _ c.args.from _
    (λ n. sym (ap (λ o. is_some (option_and_then (place_in n) o)) c.in-Some.ensures) ∙ sym (ap (λ (bs : List BlockPlace). is_some (find (λ (b : BlockPlace). b.range == n) bs)) c.as_slice.ensures))
    c.next_in.ensures

pub returns-in-None : goal.returns-in-None
returns-in-None c = λ n low. sym (ap (λ o. is_some (option_and_then (place_in n) o)) c.in-None.ensures)
