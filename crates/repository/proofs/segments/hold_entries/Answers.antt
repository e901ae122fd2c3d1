use Rattle.std.proofs.lemmas.Slice.Zip.{AllZip-long}
use Rattle.repository.specs.Opening.{IsEntryOpened}
use Rattle.repository.proofs.OpenLemmas.{docnos-distinct, documents-fit, part-of, tokens-fit, writable-opened}
use Rattle.repository.proofs.segments.hold_entries.Goals as goal

pub of_parts-requires : goal.of_parts-requires
of_parts-requires g c = writable-opened (g.T.Store.files c.args.store.now) c.args.entries.now c.in_ok-parts.parts.items c.in_ok-parts.ensures.opened

pub across-requires : goal.across-requires
across-requires g c =
    part-of c.args.limits c.in_ok-parts.parts.items _ c.in-Err.fault (AllZip-long (IsEntryOpened (g.T.Store.files c.args.store.now)) c.args.entries.now c.in_ok-parts.parts.items c.in_ok-parts.ensures.opened) c.in-Err.ensures.fault

pub returns-in-Err-clause-honest : goal.returns-in-Err-clause-honest
returns-in-Err-clause-honest g c = λ segments col listed held.
    let told = g.T.Store.files c.args.store.now in
    let es = c.args.entries.now in
    let ms = c.in_ok-parts.parts.items in
    let opened = c.in_ok-parts.ensures.opened in
    c.across.ensures.memory (c.in-Err.ensures.honest (documents-fit told c.args.limits es segments col ms listed held opened) (tokens-fit told c.args.limits es segments col ms listed held opened)
    (docnos-distinct told c.args.limits es segments col ms listed held opened))
