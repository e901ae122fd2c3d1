-- The state in which a session begins.
use Rattle.std.proofs.Common.{◌≡◌, ◌≤◌, ◌<◌, ◌+◌, ◌-◌, ℕ, List, [], length, map, drop, get_or, sym, ap, subst, ◌∙◌, arith, Option, None, Some}
use Rattle.std.specs.Option.{IfSome, option_map}
use Rattle.std.proofs.lemmas.Bool.{leb-true}
use Rattle.std.proofs.lemmas.List.{get_or-append_right, get_or-drop, get_or-map, get_or_append_left, length-map}
use Rattle.ri_base.specs.Keeps.{Rose}
use Rattle.ri_base.specs.declared.seg_fault.SegFault.{SegFault}
use Rattle.store_ends.specs.Files.{Files, GoesOn, IsQuiet, Leaves, LeavesNoMore}
use Rattle.store_ends.proofs.Files.{Leaves-none, Leaves-same, Leaves-then}
use Rattle.command_pieces.specs.CommandFaults.{IsBrokenBy, of_files}
use Rattle.command_pieces.specs.Pieces.{Piece, StandsAlong}
use Rattle.command_pieces.proofs.Commands.{by-files}
use Rattle.command_pieces.proofs.Joining.{StoppedBetween-none}
use Rattle.smoothing.specs.declared.rule.RuleKind.{RuleKind}
use Rattle.belief_nodes.specs.Priors as nodes
use Rattle.belief_nodes.specs.Priors.{no_prior}
use Rattle.disk_index.specs.Snapshots.{AreIntact}
use Rattle.manifest.specs.declared.manifest.PriorEntry.{PriorEntry}
use Rattle.merge_job.specs.Merge.{Merging}
use Rattle.repository.specs.RealLimits.{AreReal, StandsFor}
use Rattle.repository.specs.Stands.{Collection, Prior}
use Rattle.repository.specs.States.{IsBacked, ReadsAs}
use Rattle.repository.specs.States as repositories
use Rattle.repository.proofs.GoingLemmas.{going-then}
use Rattle.collection_commands.specs.Ahead.{IsAhead}
use Rattle.desk.specs.Priors.{kept_prior, length_prior, priors_with, run_priors}
use Rattle.desk.specs.Backed.{IsDeskBacked, IsMergeBacked, Keeps, merge_of, state_of}
use Rattle.desk.specs.Plugs.{ArePlugs, IsPlugOf}
use Rattle.desk.specs.Queries.{priors_in, query_of}
use Rattle.desk.proofs.EventExits.{quiet-on}
use Rattle.desk.proofs.Exits.{state-by}
use Rattle.desk.proofs.Reading.{priors-read}
use Rattle.indri_app.specs.Faults.{IsSessionFault}
use Rattle.indri_app.specs.Sessions.{IsUnderWay, begun}
use Rattle.indri_app.proofs.Standing.{files-only, item-only}

-- ---- the plugs tell the priors

abbrev kept_of : Prior → nodes.Prior
kept_of p = kept_prior p.table

stored-at : (ps : List Prior) (n : ℕ) (d : Prior) → n < length ps → get_or (priors_with ps) n no_prior ≡ kept_of (get_or ps n d)
stored-at ps n d lt =
    let long = length-map ps kept_of in
    get_or_append_left (map kept_of ps) (drop (length ps) run_priors) no_prior n (omega (arith, lt, long)) ∙ get_or-map kept_of ps n d no_prior lt

last-at : (ps : List Prior) → length ps ≤ 8 → get_or (priors_with ps) 8 no_prior ≡ length_prior
last-at ps few =
    let all : length ps + (8 - length ps) ≡ 8 = omega (arith, few) in
    get_or-append_right (map kept_of ps) (drop (length ps) run_priors) (length ps) 8 no_prior (length-map ps kept_of) few
    ∙ get_or-drop (length ps) run_priors (8 - length ps) no_prior ∙ ap (λ n. get_or run_priors n no_prior) all

plug-of : (p q : Prior) (plug : nodes.Prior) → plug ≡ kept_of q → p ≡ q → IsPlugOf p plug
plug-of p q plug is same =
    let all : plug ≡ kept_of p = is ∙ ap kept_of (sym same) in
    record { rows = ap (λ (x : nodes.Prior). x.rows) all; steps = ap (λ (x : nodes.Prior). x.steps) all; rest = ap (λ (x : nodes.Prior). x.rest) all }

plugs-with : (ps : List Prior) → length ps ≤ 8 → length (priors_with ps) ≡ 9 → ArePlugs ps (priors_with ps)
plugs-with ps few nine = record {
  nine = nine;
  stored = λ i p lt at. plug-of p (get_or ps i p) _ (stored-at ps i p lt) at;
  last = last-at ps few;
}

few-priors : (told : Option Files) (s : repositories.State) → IsBacked told s → length s.priors ≤ 8
few-priors told s backed =
    subst (λ (ps : List PriorEntry). length ps ≤ 8) backed.priors_are (leb-true (length backed.list.priors) 8 backed.has.form.1.0.1.1.0.0)

few-read : (told : Option Files) (s : repositories.State) → IsBacked told s → length (priors_in told s.priors) ≤ 8
few-read told s backed =
    let few = few-priors told s backed in
    let same : length (priors_in told s.priors) ≡ length s.priors = length-map s.priors _ in
    omega (arith, few, same)

pub plugs-begun : (told : Option Files) (s : repositories.State) (c : Collection) (plugs : List nodes.Prior) → IsBacked told s → ReadsAs told s c → plugs ≡ priors_with c.priors → length plugs ≡ 9 → ArePlugs (priors_in told s.priors) plugs
plugs-begun told s c plugs backed reads are nine =
    let read : c.priors ≡ priors_in told s.priors = priors-read told s.priors c.priors reads.priors_are in
    let with : plugs ≡ priors_with (priors_in told s.priors) = are ∙ ap priors_with read in
    let few : length (priors_in told s.priors) ≤ 8 = few-read told s backed in
    subst (ArePlugs (priors_in told s.priors)) (sym with) (plugs-with (priors_in told s.priors) few (ap length (sym with) ∙ nine))

-- ---- a desk with nothing open

pub begun-all : (told : Option Files) (s : repositories.State) (d : Keeps) (plugs : List nodes.Prior) (c : Collection) (kind : RuleKind) → d.repository ≡ s → d.queries ≡ [] → s.merge ≡ None → d.kind ≡ kind → IsAhead told s c c → IsDeskBacked told d
    → plugs ≡ priors_with c.priors → length plugs ≡ 9 → IsUnderWay told d plugs c × (state_of told d ≡ begun s.held.limits kind c)
begun-all told s d plugs c kind is queries merge same ahead backed are nine = (
  record {
    backed = backed;
    real = subst (λ (r : repositories.State). AreReal r.held.limits) (sym is) ahead.real;
    stands = ahead.stands;
    plugs_are = subst (λ (r : repositories.State). ArePlugs (priors_in told r.priors) plugs) (sym is) (plugs-begun told s c plugs ahead.backed ahead.reads are nine);
  },
  state-by told d c [] None s.held.limits kind (subst (λ (r : repositories.State). ReadsAs told r c) (sym is) ahead.reads) (ap (map (query_of told)) queries)
      (ap (λ (r : repositories.State). option_map merge_of r.merge) is ∙ ap (option_map merge_of) merge) (ap (λ (r : repositories.State). r.held.limits) is) same,
)

pub merge-none : (told : Option Files) (s : repositories.State) → s.merge ≡ None → IfSome s.merge (IsMergeBacked told s)
merge-none told s none = subst (λ (m : Option Merging). IfSome m (IsMergeBacked told s)) (sym none) tt

pub merge-intact : (told : Option Files) (s : repositories.State) → s.merge ≡ None → IfSome s.merge (λ m. AreIntact told m.snapshot)
merge-intact told s none = subst (λ (o : Option Merging). IfSome o (λ (m : Merging). AreIntact told m.snapshot)) (sym none) tt

-- ---- the store was read

pub ahead-read : (before after : Option Files) (s : repositories.State) (c : Collection) → after ≡ before → IsAhead before s c c → IsAhead after s c c
ahead-read before after s c same ahead = subst (λ f. IsAhead f s c c) (sym same) ahead

pub stops-read : (past mid since : ℕ → Files → Type 0) (left : Option (List ℕ)) (c : Collection) (pieces : List ℕ → List (Piece Collection)) → LeavesNoMore past mid → IfSome left (λ bytes. Leaves mid since (StandsAlong StandsFor c (pieces bytes)))
    → IfSome left (λ bytes. Leaves past since (StandsAlong StandsFor c (pieces bytes)))
stops-read past mid since None c pieces no_more leaves = tt
stops-read past mid since (Some bytes) c pieces no_more leaves =
    Leaves-then past mid since (StandsAlong StandsFor c (pieces bytes)) (StandsAlong StandsFor c (pieces bytes)) (Leaves-none past past mid (StandsAlong StandsFor c (pieces bytes)) (Leaves-same past _) no_more) leaves (λ f s. s)

pub stops-quiet : (past mid : ℕ → Files → Type 0) (left : Option (List ℕ)) (c : Collection) (pieces : List ℕ → List (Piece Collection)) → LeavesNoMore past mid → IfSome left (λ bytes. Leaves past mid (StandsAlong StandsFor c (pieces bytes)))
stops-quiet past mid None c pieces no_more = tt
stops-quiet past mid (Some bytes) c pieces no_more = Leaves-none past past mid (StandsAlong StandsFor c (pieces bytes)) (Leaves-same past _) no_more

-- nothing is begun
pub none-begun : (e : SegFault) (left : Option (List ℕ)) (c : Collection) (pieces : List ℕ → List (Piece Collection)) (before now : Option (List ℕ)) (f : Option Files) → now ≡ before → StandsFor c f
    → IfSome left (λ bytes. IsBrokenBy (of_files e) StandsFor c (pieces bytes) before now f)
none-begun e None c pieces before now f same stands = tt
none-begun e (Some bytes) c pieces before now f same stands = by-files e StandsFor c (pieces bytes) before now f (StoppedBetween-none StandsFor c (pieces bytes) before now f same stands)

pub files-fault : (e : SegFault) → IsSessionFault (of_files e)
files-fault e = item-only (of_files e) (files-only e)

module _ {S : Type 0} (files : S → Option Files) (layers : S → Option (List Files)) (clock : S → ℕ) (since : S → ℕ → Files → Type 0) (longest : S → ℕ) (held : S → List ℕ) where
  pub behind-on : (r s t : S) → IsQuiet files layers clock since longest held r s → GoesOn layers clock longest held s t → GoesOn layers clock longest held r t
  behind-on r s t q b = going-then layers clock longest held r s t (quiet-on files layers clock since longest held r s q) b

pub rose-earlier : (a b z : ℕ) → a ≤ b → Rose b z → Rose a z
rose-earlier a b z h r = omega (arith, h, r)
