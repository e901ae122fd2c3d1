use Rattle.std.proofs.Common.{◌≡◌, ◌<◌, ◌≤◌, ◌∙◌, ◌++◌, ◌∷◌, [], ℕ, List, Bool, false, length, ap, sym, subst, arith, rules}
use Rattle.memory_index.specs.Kept.{Index}
use Rattle.ri_base.specs.Collection.{name_count}
use Rattle.ri_base.specs.Documents.{Field, IsDocument}
use Rattle.ri_base.specs.declared.limits.TheConstants.{MAX_PART_DOCS, MAX_PART_NAMES}
use Rattle.holdings.specs.Parts.{has_room, parts_of}
use Rattle.holdings.proofs.RoomLemmas.{filling-full, held-full, name_count-alone, part-full}
use Rattle.holdings.proofs.live_parts.hold.Goals as goal

pub returns-clause-held : goal.returns-clause-held
returns-clause-held c =
    let f = c.args.filling.now in
    let d = c.args.doc.now in
    let full : has_room (parts_of c.args.closed.now.items f c.args.marks.now) d ≡ false = sym c.has_room.ensures ∙ c.if-has_room.false in
    let few = name_count-alone d (subst (λ (fs : List Field). IsDocument d.tokens fs) c.fields-fields.ensures.fields c.fields-fields.ensures.form) in
    let some : 0 < length f.documents = filling-full (parts_of c.args.closed.now.items f c.args.marks.now) d full (omega arith) few in
    let fresh : c.close.new.filling ≡ record { most = f.most; documents = d ∷ [] } =
    c.in_ok-close.ensures.filling ∙ c.in_ok-append-2.ensures.filling ∙ ap (λ (x : Index). record { most = x.most; documents = x.documents ++ d ∷ [] }) c.in_ok-fresh.ensures
    ∙ ap (λ (m : ℕ). record { most = m; documents = d ∷ [] }) c.requires.most in
    let none : c.close.new.marks ≡ false ∷ [] = c.in_ok-close.ensures.marks ∙ c.in_ok-append-2.ensures.marks ∙ ap (λ (ms : List Bool). ms ++ false ∷ []) c.in_ok-fresh_marks.ensures in
    held-full c.args.closed.now.items f c.args.marks.now d full some c.close.new.closed.items c.close.new.filling c.close.new.marks c.in_ok-close.ensures.closed fresh none

pub returns-clause-part : goal.returns-clause-part
returns-clause-part c =
    let f = c.args.filling.now in
    let d = c.args.doc.now in
    let full : has_room (parts_of c.args.closed.now.items f c.args.marks.now) d ≡ false = sym c.has_room.ensures ∙ c.if-has_room.false in
    let few = name_count-alone d (subst (λ (fs : List Field). IsDocument d.tokens fs) c.fields-fields.ensures.fields c.fields-fields.ensures.form) in
    let some : 0 < length f.documents = filling-full (parts_of c.args.closed.now.items f c.args.marks.now) d full (omega arith) few in
    let long : c.len-2.result ≡ length c.close.new.closed.items = search rules in
    long ∙ part-full c.args.closed.now.items f c.args.marks.now d full some c.close.new.closed.items c.in_ok-close.ensures.closed

pub returns-clause-writable : goal.returns-clause-writable
returns-clause-writable c =
    let d = c.args.doc.now in
    let few = name_count-alone d (subst (λ (fs : List Field). IsDocument d.tokens fs) c.fields-fields.ensures.fields c.fields-fields.ensures.form) in
    let fresh : c.close.new.filling ≡ record { most = c.args.part_docs; documents = d ∷ [] } =
    c.in_ok-close.ensures.filling ∙ c.in_ok-append-2.ensures.filling ∙ ap (λ (x : Index). record { most = x.most; documents = x.documents ++ d ∷ [] }) c.in_ok-fresh.ensures in
    subst (λ (x : Index). (length x.documents ≤ MAX_PART_DOCS) × (name_count x.documents ≤ MAX_PART_NAMES)) (sym fresh) (omega arith, few)
