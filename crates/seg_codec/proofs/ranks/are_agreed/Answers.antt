use Rattle.std.proofs.Common.{◌≡◌, ◌<◌, List, [], get_or, length, subst, ◌∙◌, arith}
use Rattle.std.specs.List.{Contains}
use Rattle.std.proofs.lemmas.List.{get_or_read}
use Rattle.ri_base.specs.declared.places.Place.{Place}
use Rattle.seg_codec.proofs.ranks.are_agreed.Goals as goal

pub returns-then-not-is_told-clause-no : goal.returns-then-not-is_told-clause-no
returns-then-not-is_told-clause-no c _ =
    let postings = c.args.postings.now in
    let rank = c.loop-rank.rank in
    let below : rank < length postings = omega arith in
    let own : c.as_slice.result.now ≡ get_or postings rank [] = c.as_slice.ensures ∙ get_or_read postings rank c.index-postings-rank.result below c.index-postings-rank.is [] in
    let differs = c.is_told.ensures.no c.if-not-is_told.true (length postings) in
    record { rank = rank; place = differs.place; known = below; posted = subst (λ (ps : List Place). Contains ps differs.place) own differs.posted; other = differs.other }
