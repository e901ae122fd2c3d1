use Rattle.std.proofs.Common.{◌≡◌, ◌+◌, ◌∙◌, ap, sym, subst, false, length, arith, rules}
use Rattle.disk_index.specs.Snapshots.{documents_held}
use Rattle.holdings.specs.Contents.{Contents, is_full}
use Rattle.holdings.specs.Kept.{AreCounted}
use Rattle.holdings.specs.MarkedParts.{tokens_held}
use Rattle.holdings.specs.Parts.{Parts, all_parts, with_document}
use Rattle.holdings.proofs.SumLemmas.{AreCounted-with, documents-with, fits, tokens-filling, tokens-with}
use Rattle.holdings.proofs.holdings.Holdings.add.Goals as goal

pub put-requires-clause-tokens : goal.put-requires-clause-tokens
put-requires-clause-tokens c =
    let s = c.self.inside in
    let now : Contents = record { parts = s.parts; limits = s.limits; generation = s.generation } in
    let free : is_full now c.args.doc.now ≡ false = ap (λ (x : Contents). is_full x c.args.doc.now) c.self.view_is ∙ sym c.is_full.ensures ∙ c.if-is_full.false in
    let room = (fits now c.args.doc.now s.documents s.tokens c.self.invariant free).1 in
    let among = tokens-filling s.parts in
    omega (arith, room, among, c.self.invariant.tokens_are, s.limits.tokens_fit)

pub invariant_of-self-2 : goal.invariant_of-self-2
invariant_of-self-2 c =
    let s = c.self.inside in
    let now : Contents = record { parts = s.parts; limits = s.limits; generation = s.generation } in
    let free : is_full now c.args.doc.now ≡ false = ap (λ (x : Contents). is_full x c.args.doc.now) c.self.view_is ∙ sym c.is_full.ensures ∙ c.if-is_full.false in
    let room = fits now c.args.doc.now s.documents s.tokens c.self.invariant free in
    let n : length c.args.doc.now.tokens ≡ c.from.result = search rules in
    subst (λ (p : Parts). AreCounted p s.limits (s.documents + 1) (s.tokens + c.from.result)) (sym c.in_ok-put.ensures.added)
    (subst (λ n. AreCounted (with_document s.parts c.args.doc.now) s.limits (s.documents + 1) (s.tokens + n)) n (AreCounted-with s.parts s.limits s.documents s.tokens c.self.invariant c.args.doc.now room.0 room.1))

pub returns-clause-documents : goal.returns-clause-documents
returns-clause-documents c =
    ap (λ (p : Parts). documents_held (all_parts p)) c.in_ok-put.ensures.added ∙ documents-with c.self.inside.parts c.args.doc.now
    ∙ ap (λ (x : Contents). documents_held (all_parts x.parts) + 1) c.self.view_is

pub returns-clause-tokens : goal.returns-clause-tokens
returns-clause-tokens c =
    ap (λ (p : Parts). tokens_held (all_parts p)) c.in_ok-put.ensures.added ∙ tokens-with c.self.inside.parts c.args.doc.now
    ∙ ap (λ (x : Contents). tokens_held (all_parts x.parts) + length c.args.doc.now.tokens) c.self.view_is
