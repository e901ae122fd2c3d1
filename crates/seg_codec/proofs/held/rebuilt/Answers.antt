use Rattle.std.proofs.Common.{◌≡◌, ◌<◌, List, ℕ, [], get_or, length, take, sym, ap, subst, ◌∙◌, arith}
use Rattle.std.specs.List.{All}
use Rattle.std.proofs.lemmas.Iterator.Adapters.{YieldsList-from_vec}
use Rattle.std.proofs.lemmas.Iterator.Consumers.{YieldsList-end, YieldsList-turn}
use Rattle.std.proofs.lemmas.List.{get_or_read, length_push, take_all}
use Rattle.seg_codec.specs.Held.{rebuilt}
use Rattle.seg_codec.specs.Whole.{IsSound}
use Rattle.seg_codec.specs.declared.documents.Entry.{Entry}
use Rattle.seg_codec.proofs.HeldLaws.{ranks_few}
use Rattle.seg_codec.proofs.HeldSteps.{rebuilt_more, tokens_counted}
use Rattle.seg_codec.proofs.held.rebuilt.Goals as goal

pub terms_at-requires : goal.terms_at-requires
terms_at-requires c =
    let es = c.args.documents.items in
    let ranks = c.args.ranks.now in
    let id = c.loop-entry.id in
    let t = YieldsList-turn (YieldsList-from_vec {s = c.into_iter-entry-iterator.result} es (cc) (cc)) c.loop-entry.yielded c.loop-entry.entry-iterator c.loop-entry.yielded_by _ c.next.new.self c.in-Some.entry c.in-Some.is c.next.ensures.steps in
    let under : id < length ranks = omega (arith, t.0, c.loop-entry.invariant.count, ranks_few es ranks c.requires.shape) in
    let own : c.as_slice.result.now ≡ get_or ranks id [] = c.as_slice.ensures ∙ get_or_read ranks id c.index-ranks-id.result under c.index-ranks-id.is [] in
    subst (All (λ (r : ℕ). r < length c.args.terms.now)) (sym own) (c.requires.known id [] under)

pub document_of-requires : goal.document_of-requires
document_of-requires c =
    let es = c.args.documents.items in
    let ranks = c.args.ranks.now in
    let id = c.loop-entry.id in
    let e = c.in-Some.entry in
    let t = YieldsList-turn (YieldsList-from_vec {s = c.into_iter-entry-iterator.result} es (cc) (cc)) c.loop-entry.yielded c.loop-entry.entry-iterator c.loop-entry.yielded_by _ c.next.new.self e c.in-Some.is c.next.ensures.steps in
    let lt : id < length es = omega (arith, t.0, c.loop-entry.invariant.count) in
    let is : e ≡ get_or es id e = t.1 ∙ ap (λ (n : ℕ). get_or es n e) (sym c.loop-entry.invariant.count) in
    let own : c.as_slice.result.now ≡ get_or ranks id [] = c.as_slice.ensures ∙ get_or_read ranks id c.index-ranks-id.result (omega (arith, lt, ranks_few es ranks c.requires.shape)) c.index-ranks-id.is [] in
    record {
      sound = subst IsSound (sym is) (c.requires.sound id e lt);
      count = tokens_counted c.args.terms.now es ranks id e c.as_slice.result.now c.in_ok-tokens.tokens c.requires.shape lt is own c.in_ok-tokens.ensures;
    }

pub loop-entry-preserved : goal.loop-entry-preserved
loop-entry-preserved c =
    let terms = c.args.terms.now in
    let es = c.args.documents.items in
    let ranks = c.args.ranks.now in
    let id = c.loop-entry.id in
    let e = c.in-Some.entry in
    let row = c.as_slice.result.now in
    let t = YieldsList-turn (YieldsList-from_vec {s = c.into_iter-entry-iterator.result} es (cc) (cc)) c.loop-entry.yielded c.loop-entry.entry-iterator c.loop-entry.yielded_by _ c.next.new.self e c.in-Some.is c.next.ensures.steps in
    let lt : id < length es = omega (arith, t.0, c.loop-entry.invariant.count) in
    let under : id < length ranks = omega (arith, lt, ranks_few es ranks c.requires.shape) in
    let is : e ≡ get_or es id e = t.1 ∙ ap (λ (n : ℕ). get_or es n e) (sym c.loop-entry.invariant.count) in
    let same : row ≡ get_or ranks id row = c.as_slice.ensures ∙ get_or_read ranks id c.index-ranks-id.result under c.index-ranks-id.is row in
    record {
      count = omega (arith, c.loop-entry.invariant.count, length_push c.loop-entry.yielded e);
      made = rebuilt_more terms es ranks id e row c.in_ok-tokens.tokens c.in_ok-document_of.field-0 c.loop-entry.found.items _ lt under is same c.in_ok-tokens.ensures c.in_ok-document_of.ensures c.in_ok-push.ensures.items c.loop-entry.invariant.made;
    }

pub returns : goal.returns
returns c =
    let es = c.args.documents.items in
    let ranks = c.args.ranks.now in
    let id = c.loop-entry.id in
    let t = YieldsList-end (YieldsList-from_vec {s = c.into_iter-entry-iterator.result} es (cc) (cc)) c.loop-entry.yielded c.loop-entry.entry-iterator c.loop-entry.yielded_by _ c.next.new.self c.in-None.is c.next.ensures.steps in
    let terms = c.args.terms.now in
    let most = ranks_few es ranks c.requires.shape in
    c.of.ensures ∙ c.loop-entry.invariant.made ∙ ap (λ (xs : List Entry). rebuilt terms xs (take id ranks)) (take_all id es (omega (arith, t.1, c.loop-entry.invariant.count))) ∙ ap (rebuilt terms es) (take_all id ranks (omega (arith, t.1, c.loop-entry.invariant.count, most)))
