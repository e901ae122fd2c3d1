use Rattle.std.proofs.Common.{◌≡◌, ◌≤◌, List, [], length, get_or, sym, subst, ◌∙◌}
use Rattle.std.specs.List.{All}
use Rattle.std.proofs.lemmas.List.{get_or_read, take_all}
use Rattle.ri_base.specs.declared.places.Place.{Place}
use Rattle.seg_codec.specs.Held.{AreFilled, IsWithin, lengths}
use Rattle.seg_codec.proofs.RankLemmas.{telling_on, telling_starts}
use Rattle.seg_codec.proofs.ranks.tell_term.Goals as goal

pub loop-place-init : goal.loop-place-init
loop-place-init c = telling_starts c.args.postings.now c.args.ranks.now.items c.requires.only

pub tell-requires : goal.tell-requires
tell-requires c =
    let own : List Place = c.as_slice-own.result.now in
    let i = c.loop-place.place-index in
    let is : own ≡ get_or c.args.postings.now c.args.rank [] = c.as_slice-own.ensures ∙ get_or_read c.args.postings.now c.args.rank c.index-postings-rank.result c.requires.known c.index-postings-rank.is [] in
    let within : All (IsWithin (lengths c.args.ranks.now.items)) own = subst (All (IsWithin (lengths c.args.ranks.now.items))) (sym is) c.requires.within in
    rw c.loop-place.invariant.shape (within i _ c.loop-place-test.true)

pub loop-place-preserved : goal.loop-place-preserved
loop-place-preserved c =
    let own : List Place = c.as_slice-own.result.now in
    let i = c.loop-place.place-index in
    let is : own ≡ get_or c.args.postings.now c.args.rank [] = c.as_slice-own.ensures ∙ get_or_read c.args.postings.now c.args.rank c.index-postings-rank.result c.requires.known c.index-postings-rank.is [] in
    telling_on c.args.postings.now c.args.rank c.args.ranks.now.items c.loop-place.ranks.items _ own i _ c.requires.known is c.requires.within c.loop-place-test.true c.tell.ensures c.loop-place.invariant

pub returns-clause-filled : goal.returns-clause-filled
returns-clause-filled c =
    let own : List Place = c.as_slice-own.result.now in
    let i = c.loop-place.place-index in
    let is : own ≡ get_or c.args.postings.now c.args.rank [] = c.as_slice-own.ensures ∙ get_or_read c.args.postings.now c.args.rank c.index-postings-rank.result c.requires.known c.index-postings-rank.is [] in
    subst (AreFilled (length c.args.postings.now) c.loop-place.ranks.items) (take_all i (get_or c.args.postings.now c.args.rank []) (subst (λ (ps : List Place). length ps ≤ i) is c.loop-place-test.false)) c.loop-place.invariant.filled
