-- The machine values of a `Kept`. Assumes `Logic`.
use Rattle.std.proofs.Common.{◌≡◌, ℕ, List, [], ◌∷◌, ◌++◌, refl, subst, ◌∙◌, lit<}
use mathlib.Core.Bool.{◌&&◌, true}
use lib.Dec.{T}
use seplogic.Ra.Ura.{Ura}
use mir.Syntax.{ty_ptr, w64, impl, tnil, dnil}
use mir.Val.{Val, vptr, vint, vstruct, vcons, vnil, of_list, has_ty, WT}
use types.Logic.{Logic, sem}
use types.Kit.{Item, Goal, Seq, Step, step, ‵, ◌$◌, move, drop, fsplit, fjoin, fpick, fpack, feq_i, feq_l}
use denote.RattleType.{RattleType, Valss}
use denote.Builtin.{RawPtr, u64}
use denote.Plain.{uint_Makes}
use denote.Laws.{Is, shows}
use denote.RawPtr.{Ptr, block_ptr, null_ptr, ptr_val, in_a_block}
use denote.Memory.{lone}
use mir.Raw.{raw as bare}
use base.Logic.{never, fst∗}
use denote.Steps.{nothing, owned, facts}
use denote.Param.{layout}
use denote.Struct.Struct.{within}
use denote.Struct.Owning.{shape}
use Rattle.core.proofs.cell.Inside.{Good}
use Rattle.core.proofs.alloc.Calls.{Al, handle_tells}
use Rattle.std.proofs.alloc.Global.TheLaws as heap_laws
use Rattle.std.specs.declared.option.Option.TheVariants.{None, Some}
use Rattle.std.specs.declared.alloc.Global.{Global}
use Rattle.std.specs.contracts.alloc.Global as heap
use Rattle.std.specs.contracts.impls.GlobalAllocator.TheImpl.{ghosts}
use Rattle.std_alloc.specs.Box.Ownership.{box_owns}
use Rattle.std_alloc.proofs.ResultValues.{and_tt}
use Rattle.std.specs.declared.option.Option.{Option}
use Rattle.zaxbriar_calls.specs.Kept.{kept_owns}
use Rattle.zaxbriar_calls.specs.declared.handle.Handle.{Handle}
use Rattle.zaxbriar_calls.specs.contracts.handle.Handle as state
use Rattle.zaxbriar_calls.specs.contracts.kept.Kept as kept
use Rattle.zaxbriar_calls.proofs.LooseValues.{both_tt}

abbrev pub Z : RattleType
Z = heap.the_row

abbrev pub three : Val → Val → Val → Val
three u v w = vstruct (vcons u (vcons v (vcons w vnil)))

pub kept_good : (b o : ℕ) (h : Val) → Good (layout Z) h → T (has_ty (layout Z) h && true) × WT (three (vptr b o) (vint w64 1) h)
kept_good b o h fits = (and_tt (has_ty (layout Z) h) fits.0, (tt, (record { fits = lit< tt }, (fits.1, tt))))

pub none_good : (h : Val) → Good (layout Z) h → T (has_ty (layout Z) h && true) × WT (three (vint w64 0) (vint w64 0) h)
none_good h fits = (and_tt (has_ty (layout Z) h) fits.0, (record { fits = lit< tt }, (record { fits = lit< tt }, (fits.1, tt))))

pub none_kept : (u h : Val) → Good ty_ptr u → Good (layout Z) h → T (has_ty ty_ptr u && (has_ty (layout Z) h && true)) × WT (three u (vint w64 0) h)
none_kept u h at fits = (both_tt (has_ty ty_ptr u) (has_ty (layout Z) h) at.0 fits.0, (at.1, (record { fits = lit< tt }, (fits.1, tt))))

abbrev pub al : Al
al = record { row = Z; laws = heap_laws.the_row_laws; g = ghosts; d = impl [] tnil dnil; drops = impl [] tnil dnil }

module _ {M : Type 1} {𝓤 : Ura M} {𝓛 : Logic 𝓤} {K : Type 0} {Γ : List (Item 𝓤)} {G : Goal 𝓤 𝓛.H} where
  pub kept_in : K → (b o : ℕ) (h : Val) (a : Global) (x : Handle)
      → Step K 𝓛 (‵ ((kept.the_row).own_val (record { at = block_ptr b o; used = 1; alloc = a; value = Some x }) (three (vptr b o) (vint w64 1) h ∷ [])) ∷ Γ) G
      (‵ (box_owns (ghosts.dealloc_token a) state.the_row (block_ptr b o) x) ∷ ‵ (Z.own_val a (h ∷ [])) ∷ Γ) G
  kept_in t b o h a x = step (λ s. let v : Val = three (vptr b o) (vint w64 1) h in
      nothing t $ move t (2 ∷ 0 ∷ []) $ fjoin t $ owned t u64 (Is u64) (uint_Makes 𝓛 w64) 1 (vint w64 1 ∷ []) (refl, lit< tt) $ fjoin t $
      feq_i t (List Val) (vptr b o ∷ []) (vptr b o ∷ []) refl $ fjoin t $ feq_i t (List Val) (v ∷ []) (v ∷ []) refl $ fjoin t $
      fpack t (Valss (RawPtr ∷ u64 ∷ (heap.the_field).row ∷ [])) (within (shape kept.the_type) (block_ptr b o, (1, ((heap.the_field).into a, tt))) (v ∷ [])) (vptr b o ∷ [], (vint w64 1 ∷ [], (h ∷ [], tt))) $
      move t (1 ∷ []) $ feq_i t ℕ 1 1 refl $ fjoin t $ move t (1 ∷ []) $ fjoin t $ s)

  pub none_in : K → (h : Val) (a : Global)
      → Step K 𝓛 (‵ ((kept.the_row).own_val (record { at = null_ptr; used = 0; alloc = a; value = None }) (three (vint w64 0) (vint w64 0) h ∷ [])) ∷ Γ) G (‵ (Z.own_val a (h ∷ [])) ∷ Γ) G
  none_in t h a = step (λ s. let v : Val = three (vint w64 0) (vint w64 0) h in
      nothing t $ move t (1 ∷ 0 ∷ []) $ fjoin t $ owned t u64 (Is u64) (uint_Makes 𝓛 w64) 0 (vint w64 0 ∷ []) (refl, lit< tt) $ fjoin t $
      feq_i t (List Val) (vint w64 0 ∷ []) (vint w64 0 ∷ []) refl $ fjoin t $ feq_i t (List Val) (v ∷ []) (v ∷ []) refl $ fjoin t $
      fpack t (Valss (RawPtr ∷ u64 ∷ (heap.the_field).row ∷ [])) (within (shape kept.the_type) (null_ptr, (0, ((heap.the_field).into a, tt))) (v ∷ [])) (vint w64 0 ∷ [], (vint w64 0 ∷ [], (h ∷ [], tt))) $
      feq_i t ℕ 0 0 refl $ move t (1 ∷ []) $ fjoin t $ s)

  kept_split : K → (p : Ptr) (n : ℕ) (a : Global) (value : Option Handle) → (n ≡ 0 → value ≡ None → Seq K 𝓛 Γ G)
      → ((b o : ℕ) (x : Handle) → p ≡ block_ptr b o → n ≡ 1 → value ≡ Some x → Seq K 𝓛 (‵ (box_owns (ghosts.dealloc_token a) state.the_row (block_ptr b o) x) ∷ Γ) G)
      → Seq K 𝓛 (‵ (kept_owns a p n value) ∷ Γ) G
  kept_split t p n a None none one = feq_l t (λ e. none e refl)
  kept_split t p n a (Some x) none one = fsplit t $ feq_l t (λ e.
      in_a_block t p (λ q. box_owns (ghosts.dealloc_token a) state.the_row q x) (fst∗ 𝓤 (never 𝓤) (sem 𝓛 (ghosts.dealloc_token a (bare (lone (state.the_row).mir)) null_ptr))) (λ b o i. one b o x i e refl))

module _ {M : Type 1} {𝓤 : Ura M} {𝓛 : Logic 𝓤} {K : Type 0} {Γ : List (Item 𝓤)} {G : Goal 𝓤 𝓛.H} where
  pub kept_out : K → (p : Ptr) (n : ℕ) (a : Global) (value : Option Handle) (vs : List Val)
      → ((h : Val) → value ≡ None → vs ≡ three (ptr_val p) (vint w64 0) h ∷ [] → Good (layout Z) h → Seq K 𝓛 (‵ (Z.own_val a (h ∷ [])) ∷ Γ) G)
      → ((b o : ℕ) (h : Val) (x : Handle) → value ≡ Some x → vs ≡ three (vptr b o) (vint w64 1) h ∷ [] → Good (layout Z) h
      → Seq K 𝓛 (‵ (box_owns (ghosts.dealloc_token a) state.the_row (block_ptr b o) x) ∷ ‵ (Z.own_val a (h ∷ [])) ∷ Γ) G)
      → Seq K 𝓛 (‵ ((kept.the_row).own_val (record { at = p; used = n; alloc = a; value = value }) vs) ∷ Γ) G
  kept_out t p n a value vs none one =
      fsplit t $ fpick t (λ vss. fsplit t $ feq_l t (λ ev. fsplit t $ feq_l t (λ ep. fsplit t $ facts t u64 (Is u64) (shows 𝓛 u64) n vss.1.0 (λ en. fsplit t $ handle_tells al t a vss.1.1.0 (λ h eh fits. move t (1 ∷ []) $ drop t $ move t (1 ∷ []) $
      let all : vs ≡ three (ptr_val p) (vint w64 n) h ∷ [] = ev ∙ (λ j. vstruct (of_list (ep j ++ (en.0 j ++ (eh j ++ [])))) ∷ []) in
      kept_split t p n a value (λ e i. none h i (subst (λ (m : ℕ). vs ≡ three (ptr_val p) (vint w64 m) h ∷ []) e all) fits)
      (λ b o x at e i. one b o h x i (subst (λ (q : Ptr). vs ≡ three (ptr_val q) (vint w64 1) h ∷ []) at (subst (λ (m : ℕ). vs ≡ three (ptr_val p) (vint w64 m) h ∷ []) e all)) fits))))))
