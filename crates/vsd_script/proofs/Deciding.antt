-- Scripts are read in one way, whatever follows them.
use Rattle.std.proofs.Common.{ℕ, Bool, true, false, List, Option, Some, None, refl}
use Rattle.vsd_terms.specs.declared.term.Term.{Term}
use Rattle.vsd_ast.specs.declared.declarations.Decl.{Decl}
use Rattle.vsd_ast.specs.declared.declarations.Decls.{Decls}
use Rattle.vsd_ast.specs.declared.scripts.Host.{Host}
use Rattle.vsd_ast.specs.declared.scripts.Script.{Script}
use Rattle.vsd_ast.specs.declared.scripts.Site.{Site}
use Rattle.vsd_grammar.specs.declared.token_class.TokenClass.{TokenClass}
use Rattle.vsd_grammar.specs.declared.token_class.TokenClass.TheVariants as class
use Rattle.vsd_grammar.specs.declared.cause.Listed.{Listed}
use Rattle.vsd_grammar.specs.Grammar.{Decides}
use Rattle.vsd_grammar.proofs.Deciding.{anything, decides_expect, decides_eat, decides_spelled_name, decides_spelled_number, decides_then_pass, decides_checked}
use Rattle.vsd_type_syntax.proofs.Deciding.{decides_written, decides_written_open}
use Rattle.vsd_lanes.specs.Types.{rules_of}
use Rattle.vsd_lanes.specs.Productions.{equals, semicolon}
use Rattle.vsd_lanes.proofs.Deciding.{decides_shows, decides_assigned, decides_lane}
use Rattle.vsd_script.specs.declared.script.Word.{Word}
use Rattle.vsd_script.specs.declared.script.Word.TheVariants as word
use Rattle.vsd_script.specs.declared.term.ReadTerm.{ReadTerm}
use Rattle.vsd_script.specs.Productions as spec

decides_begun : (count most : ℕ) (what : Listed) (F : TokenClass → Bool) → Decides (Unit {0}) (spec.begun count most what) F
unfolding spec.begun
decides_begun count most what F = (anything, decides_shows _ anything, λ u. (tt, λ i y j d g. refl))

decides_site_name : (sites : List Site) (F : TokenClass → Bool) → Decides (List ℕ) (spec.site_name sites) F
unfolding spec.site_name
decides_site_name sites F = (
  anything,
  decides_spelled_name anything,
  λ name. ((anything, decides_shows _ anything, λ u. (decides_then_pass (List ℕ) name F, λ i y j d g. refl)), λ i y j d g. refl),
)

decides_host_name : (hosts : List Host) (F : TokenClass → Bool) → Decides (List ℕ) (spec.host_name hosts) F
unfolding spec.host_name
decides_host_name hosts F = (
  anything,
  decides_spelled_name anything,
  λ name. ((anything, decides_shows _ anything, λ u. (decides_then_pass (List ℕ) name F, λ i y j d g. refl)), λ i y j d g. refl),
)

decides_method_name : (ds : List Decl) (t : Term) (F : TokenClass → Bool) → Decides (List ℕ) (spec.method_name ds t) F
unfolding spec.method_name
decides_method_name ds t F = (
  anything,
  decides_spelled_name anything,
  λ name. ((anything, decides_checked ℕ _ anything, λ n. (decides_then_pass (List ℕ) name F, λ i y j d g. refl)), λ i y j d g. refl),
)

decides_counted_slot : (ds : List Decl) (t : Term) (name : List ℕ) (F : TokenClass → Bool) → Decides ℕ (spec.counted_slot ds t name) F
unfolding spec.counted_slot
decides_counted_slot ds t name F = (
  anything,
  decides_spelled_number 1 256 6 anything,
  λ n. ((anything, decides_checked ℕ _ anything, λ slot. (decides_then_pass ℕ slot F, λ i y j d g. refl)), λ i y j d g. refl),
)

decides_slot_if : (ds : List Decl) (t : Term) (name : List ℕ) (b : Bool) (F : TokenClass → Bool) → Decides ℕ (spec.slot_if ds t name b) F
decides_slot_if ds t name true F = decides_counted_slot ds t name F
decides_slot_if ds t name false F = decides_checked ℕ _ F

decides_slot : (ds : List Decl) (t : Term) (F : TokenClass → Bool) → Decides ℕ (spec.slot ds t) F
unfolding spec.slot
decides_slot ds t F = (
  anything,
  decides_method_name ds t anything,
  λ name. ((anything, decides_eat (class.Symbol 35) anything, λ b. (decides_slot_if ds t name b F, λ i y j d g. refl)), λ i y j d g. refl),
)

decides_site : (d : Decls) (s : Script) (F : TokenClass → Bool) → Decides Script (spec.site d s) F
unfolding spec.site
decides_site d s F = (
  anything,
  decides_begun _ _ _ anything,
  λ u. (
    (
      anything,
      decides_site_name s.sites anything,
      λ name. (
        (
          anything,
          decides_expect equals anything,
          λ v. (
            (
              anything,
              decides_written (rules_of d) false anything,
              λ t. (
                (
                  anything,
                  decides_expect class.Colons anything,
                  λ w. (
                    (
                      anything,
                      decides_slot d.list t anything,
                      λ n. ((anything, decides_expect semicolon anything, λ x. (tt, λ i y j e g. refl)), λ i y j e g. refl),
                    ),
                    λ i y j e g. refl,
                  ),
                ),
                λ i y j e g. refl,
              ),
            ),
            λ i y j e g. refl,
          ),
        ),
        λ i y j e g. refl,
      ),
    ),
    λ i y j e g. refl,
  ),
)

decides_host : (d : Decls) (s : Script) (F : TokenClass → Bool) → Decides Script (spec.host d s) F
unfolding spec.host
decides_host d s F = (
  anything,
  decides_begun _ _ _ anything,
  λ u. (
    (anything, decides_host_name s.hosts anything, λ name. ((anything, decides_assigned d anything, λ t. (tt, λ i y j e g. refl)), λ i y j e g. refl)),
    λ i y j e g. refl,
  ),
)

decides_lane_of : (d : Decls) (s : Script) (F : TokenClass → Bool) → Decides Script (spec.lane_of d s) F
unfolding spec.lane_of
decides_lane_of d s F = (
  anything,
  decides_shows _ anything,
  λ u. ((anything, decides_lane _ s.roots anything, λ b. (tt, λ i y j e g. refl)), λ i y j e g. refl),
)

decides_statement : (d : Decls) (s : Script) (F : TokenClass → Bool) → Decides Script (spec.statement d s) F
unfolding spec.statement
decides_statement d s F = (anything, tt, λ h. (go (spec.word_of h.class), λ i y j e g. refl))
  where
    go : (w : Option Word) → Decides Script (spec.statement_by d s w) F
    go None = tt
    go (Some word.Site) = decides_site d s F
    go (Some word.Host) = decides_host d s F
    go (Some word.Lane) = decides_lane_of d s F

pub decides_script : (d : Decls) (F : TokenClass → Bool) → Decides Script (spec.script d) F
unfolding spec.script
decides_script d F = (anything, λ s. (decides_statement d s anything, λ i y j e g. refl), λ q s g. refl)

pub decides_term_at : (d : Decls) (F : TokenClass → Bool) → Decides ReadTerm (spec.term_at d) F
unfolding spec.term_at
decides_term_at d F = (anything, decides_written_open (rules_of d) anything, λ t. ((anything, tt, λ h. (tt, λ i y j e g. refl)), λ i y j e g. refl))
