use Rattle.std.proofs.Common.{[], get_or, sym, take, ap, ◌∙◌}
use Rattle.std.specs.BTreeSet.{contains}
use Rattle.std.specs.List.{list_any}
use Rattle.std.proofs.lemmas.List.{map_more}
use Rattle.ri_base.specs.declared.places.Place.{Place}
use Rattle.seg_codec.specs.Twice.{first_twice, is_same}
use Rattle.seg_codec.specs.declared.twice.Standing.{Standing}
use Rattle.seg_codec.proofs.TwiceLemmas.{pair_cmp, posted, seen_more, twice_found, twice_goes_on, was_new, was_there}
use Rattle.seg_codec.proofs.twice.first_twice.Goals as goal

abbrev none : Standing
none = record { posting = record { id = 0; at = 0 }; place = 0 }

pub returns-then-not-branch : goal.returns-then-not-branch
returns-then-not-branch c =
    let all = c.args.all.now in
    let i = c.loop-one.one-index in
    let p : Place = (get_or all i none).posting in
    let there = was_there (contains pair_cmp c.loop-one.seen (p.id, p.at)) c.in_ok-insert.field-0 c.in_ok-insert.ensures.added c.if-not-branch.true in
    twice_found all i none (first_twice [] all) c.loop-one-test.true (sym (c.loop-one.invariant.seen p) ∙ there) c.loop-one.invariant.rest

pub loop-one-preserved : goal.loop-one-preserved
loop-one-preserved c =
    let all = c.args.all.now in
    let i = c.loop-one.one-index in
    let p : Place = (get_or all i none).posting in
    let new = was_new (contains pair_cmp c.loop-one.seen (p.id, p.at)) c.in_ok-insert.field-0 c.in_ok-insert.ensures.added c.if-not-branch.false in
    record {
      rest = twice_goes_on all i none (first_twice [] all) c.loop-one-test.true (sym (c.loop-one.invariant.seen p) ∙ new) c.loop-one.invariant.rest;
      seen = λ q. seen_more c.loop-one.seen c.insert.new.self (posted (take i all)) p c.loop-one.invariant.seen c.in_ok-insert.ensures.updates q
          ∙ ap (list_any (λ (y : Place). is_same y q)) (sym (map_more (λ (s : Standing). s.posting) all i none c.loop-one-test.true));
    }
