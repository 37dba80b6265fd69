-- Operations 1 to 6 are accepted exactly where their conditions hold.
use Prim.{Unit, tt}
use Prim.Native.Nat.{ℕ, ◌<◌}
use mathlib.Core.Bool.{true}
use mathlib.Core.Logic.{◌⊎◌, inl, inr, ⊎_elim}
use mathlib.Core.Path.{◌≡◌, refl}
use native.Mathlib.Omega.{arith}
use Rattle.numbers.specs.Limits.{VMS, PAGES, PORTS}
use Rattle.numbers.specs.Decides.{Decides}
use Rattle.numbers.specs.DecidesLaws.{always, decides_as, decides_itself, decides_less, decides_most, decides_equal, decides_not, decides_and, decides_or}
use Rattle.numbers.specs.declared.Side.{Side}
use Rattle.numbers.specs.declared.Side.TheVariants.{Cpu, Dma}
use Rattle.table.specs.Table.{free_entries}
use Rattle.model.specs.State.{Tables, route}
use Rattle.model.specs.Views.{knows, in_pool, owns, claims}
use Rattle.model.specs.Valid.{ValidTables}
use Rattle.model.specs.Ledger.{vm_early, page_early, pair_early, add_vm_answer, remove_vm_answer, assign_answer, reclaim_answer, share_answer, unshare_answer, borrower_maps}
use Rattle.model.specs.Conditions.{accepts, Edge, Mapped, Targets, RunsOn, AddsVm, RemovesVm, Assigns, Reclaims, Shares, Unshares}
use Rattle.model.proofs.ExactLaws.{unless, where_so, and_then_lem, after_early}
use Rattle.model.proofs.ExactViews.{claimed_exact, pages_exact, mappings_exact, target_exact, targets_of_exact, edge_on_exact, edge_of_exact, paired_exact, port_exact}

-- ---- early checks
pub vm_early_lem : (known vm : ℕ) → Decides (accepts (vm_early known vm)) ((vm < VMS) × ((knows known vm ≡ true) × Unit {0}))
vm_early_lem known vm = where_so _ _ _ _ (decides_less vm VMS) (where_so _ _ _ _ (decides_itself (knows known vm)) always)

page_early_lem : (known pages vm page : ℕ) → Decides (accepts (page_early known pages vm page)) (((vm < VMS) × (page < pages)) × ((knows known vm ≡ true) × Unit {0}))
page_early_lem known pages vm page =
    where_so _ _ _ _ (decides_and (decides_less vm VMS) (decides_less page pages)) (where_so _ _ _ _ (decides_itself (knows known vm)) always)

pair_early_lem : (known pages left right page : ℕ) →
    Decides (accepts (pair_early known pages left right page)) ((((left < VMS) × (right < VMS)) × (page < pages)) × (((knows known left ≡ true) × (knows known right ≡ true)) × Unit {0}))
pair_early_lem known pages left right page =
    where_so _ _ _ _ (decides_and (decides_and (decides_less left VMS) (decides_less right VMS)) (decides_less page pages))
    (where_so _ _ _ _ (decides_and (decides_itself (knows known left)) (decides_itself (knows known right))) always)

module _ (t : Tables) (v : ValidTables t) where
  -- ---- 1, 2
  pub add_vm_exact : (vm : ℕ) → Decides (accepts (add_vm_answer t.known vm)) (AddsVm t vm)
  unfolding add_vm_answer
  add_vm_exact vm =
      decides_as (where_so _ _ _ _ (decides_less vm VMS) (unless _ _ _ _ (decides_itself (knows t.known vm)) always))
      (λ p. record { vm_ok = p.0; unknown = p.1.0 })
      (λ c. (c.vm_ok, (c.unknown, tt)))

  -- what keeps a VM
  abbrev Busy : ℕ → Type 0
  Busy vm =
      (((((((page : ℕ) × (page < PAGES) × (claims Cpu t.sets vm page ≡ true))
      ⊎ ((page : ℕ) × (page < PAGES) × (claims Dma t.sets vm page ≡ true)))
      ⊎ ((guest : ℕ) × Mapped t.cpu.map vm guest))
      ⊎ ((guest : ℕ) × Mapped t.dma.map vm guest))
      ⊎ ((other : ℕ) × (page : ℕ) × Edge t vm other page))
      ⊎ ((port : ℕ) × (port < PORTS) × RunsOn Cpu t port vm))
      ⊎ ((port : ℕ) × (port < PORTS) × RunsOn Dma t port vm)

  pub remove_vm_exact : (vm : ℕ) → Decides (accepts (remove_vm_answer t.known t.sets t.pairs t.cpu.map t.dma.map t.cpu.ports t.dma.ports vm)) (RemovesVm t vm)
  unfolding remove_vm_answer
  remove_vm_exact vm =
      decides_as
      (and_then_lem (vm_early t.known vm) _ (vm_early_lem t.known vm)
      (unless _ _ _ _
      (decides_or (decides_or (decides_or (decides_or (decides_or (decides_or (pages_exact Cpu t.sets vm) (pages_exact Dma t.sets vm)) (mappings_exact v.cpu.map vm)) (mappings_exact v.dma.map vm)) (edge_of_exact t v vm)) (port_exact t.cpu.ports vm v.lengths.cpu.ports)) (port_exact t.dma.ports vm v.lengths.dma.ports))
      always))
      to fro
    where
      to : ((vm < VMS) × ((knows t.known vm ≡ true) × Unit {0})) × ((Busy vm → ⊥) × Unit {0}) → RemovesVm t vm
      to ((ok, (known, _)), (idle, _)) =
          record {
            vm_ok = ok;
            known = known;
            no_page = no_page;
            no_mapping = no_mapping;
            no_edge = λ other page e. idle (inl (inl (inr (other, page, e))));
            no_port = no_port;
          }
        where
          no_page : (side : Side) (page : ℕ) → page < PAGES → claims side t.sets vm page ≡ true → ⊥
          no_page Cpu page h e = idle (inl (inl (inl (inl (inl (inl (page, h, e)))))))
          no_page Dma page h e = idle (inl (inl (inl (inl (inl (inr (page, h, e)))))))

          no_mapping : (side : Side) (guest : ℕ) → Mapped (route side t).map vm guest → ⊥
          no_mapping Cpu guest m = idle (inl (inl (inl (inl (inr (guest, m))))))
          no_mapping Dma guest m = idle (inl (inl (inl (inr (guest, m)))))

          no_port : (side : Side) (port : ℕ) → port < PORTS → RunsOn side t port vm → ⊥
          no_port Cpu port h e = idle (inl (inr (port, h, e)))
          no_port Dma port h e = idle (inr (port, h, e))

      fro : RemovesVm t vm → ((vm < VMS) × ((knows t.known vm ≡ true) × Unit {0})) × ((Busy vm → ⊥) × Unit {0})
      fro c = ((c.vm_ok, (c.known, tt)), (idle, tt))
        where
          idle : Busy vm → ⊥
          idle (inl (inl (inl (inl (inl (inl (page, h, e))))))) = c.no_page Cpu page h e
          idle (inl (inl (inl (inl (inl (inr (page, h, e))))))) = c.no_page Dma page h e
          idle (inl (inl (inl (inl (inr (guest, m)))))) = c.no_mapping Cpu guest m
          idle (inl (inl (inl (inr (guest, m))))) = c.no_mapping Dma guest m
          idle (inl (inl (inr (other, page, e)))) = c.no_edge other page e
          idle (inl (inr (port, h, e))) = c.no_port Cpu port h e
          idle (inr (port, h, e)) = c.no_port Dma port h e

  -- ---- 3, 4
  pub assign_exact : (vm page : ℕ) → Decides (accepts (assign_answer t.known t.setup.pages t.sets vm page)) (Assigns t vm page)
  unfolding assign_answer
  assign_exact vm page =
      decides_as
      (and_then_lem (page_early t.known t.setup.pages vm page) _ (page_early_lem t.known t.setup.pages vm page)
      (where_so _ _ _ _ (decides_itself (in_pool t.sets page)) (unless _ _ _ _ (claimed_exact Dma t.sets vm page) always)))
      (λ (((ok, in-range), (known, _)), (pool, (free, _))).
      record { vm_ok = ok; page_ok = in-range; known = known; pool = pool; unclaimed = λ other h n e. free (other, h, (n, e)) })
      (λ c. (((c.vm_ok, c.page_ok), (c.known, tt)), (c.pool, ((λ (other, h, (n, e)). c.unclaimed other h n e), tt))))

  pub reclaim_exact : (vm page : ℕ) → Decides (accepts (reclaim_answer t.known t.setup.pages t.sets t.pairs t.cpu.map vm page)) (Reclaims t vm page)
  unfolding reclaim_answer
  reclaim_exact vm page =
      decides_as
      (and_then_lem (page_early t.known t.setup.pages vm page) _ (page_early_lem t.known t.setup.pages vm page)
      (where_so _ _ _ _ (decides_itself (owns t.sets vm page))
      (unless _ _ _ _ (decides_or (target_exact v.cpu.map page) (edge_on_exact t v page)) always)))
      (λ (((ok, in-range), (known, _)), (owned, (unused, _))).
      record {
        vm_ok = ok;
        page_ok = in-range;
        known = known;
        owned = owned;
        no_mapping = λ mapper m. unused (inl (mapper, m));
        no_edge = λ left right e. unused (inr (left, right, e));
      })
      (λ c. (((c.vm_ok, c.page_ok), (c.known, tt)), (c.owned, (⊎_elim (λ (mapper, m). c.no_mapping mapper m) (λ (left, right, e). c.no_edge left right e), tt))))

  -- ---- 5, 6
  -- ids are below VMS and pages below PAGES wherever the early check passed
  page_small : {page : ℕ} → page < t.setup.pages → page < PAGES
  page_small h = omega (arith, v.setup.most_pages)

  pub share_exact : (left right page : ℕ) → Decides (accepts (share_answer t.known t.setup.pages t.sets t.pairs left right page)) (Shares t left right page)
  unfolding share_answer
  share_exact left right page =
      decides_as
      (after_early (pair_early t.known t.setup.pages left right page) _ (pair_early_lem t.known t.setup.pages left right page)
      (λ (((l, r), p), _).
      unless _ _ _ _ (decides_equal left right)
      (where_so _ _ _ _ (decides_itself (owns t.sets left page))
      (where_so _ _ _ _ (decides_or (paired_exact t v left right page l r (page_small p)) (decides_most 1 (free_entries t.pairs))) always))))
      (λ ((((l, r), p), ((k, k'), _)), (apart, (owned, (room, _)))).
      record { left_ok = l; right_ok = r; page_ok = p; left_known = k; right_known = k'; apart = apart; owned = owned; room = room })
      (λ c. ((((c.left_ok, c.right_ok), c.page_ok), ((c.left_known, c.right_known), tt)), (c.apart, (c.owned, (c.room, tt)))))

  borrower_exact : (vm page : ℕ) → Decides (borrower_maps t.sets t.cpu.map vm page) ((owns t.sets vm page ≡ true → ⊥) × Targets t.cpu.map vm page)
  borrower_exact vm page = decides_and (decides_not (decides_itself (owns t.sets vm page))) (targets_of_exact v.cpu.map vm page)

  pub unshare_exact : (left right page : ℕ) → Decides (accepts (unshare_answer t.known t.setup.pages t.sets t.pairs t.cpu.map left right page)) (Unshares t left right page)
  unfolding unshare_answer
  unshare_exact left right page =
      decides_as
      (after_early (pair_early t.known t.setup.pages left right page) _ (pair_early_lem t.known t.setup.pages left right page)
      (λ (((l, r), p), _).
      where_so _ _ _ _ (paired_exact t v left right page l r (page_small p))
      (unless _ _ _ _ (decides_or (borrower_exact left page) (borrower_exact right page)) always)))
      (λ ((((l, r), p), ((k, k'), _)), (shared, (unused, _))).
      record {
        left_ok = l;
        right_ok = r;
        page_ok = p;
        left_known = k;
        right_known = k';
        shared = shared;
        no_mapping = λ borrower end n m. unused (⊎_elim (λ e. inl (rw e at n, rw e at m)) (λ e. inr (rw e at n, rw e at m)) end);
      })
      (λ c. (
        (((c.left_ok, c.right_ok), c.page_ok), ((c.left_known, c.right_known), tt)),
        (c.shared, (⊎_elim (λ (n, m). c.no_mapping left (inl refl) n m) (λ (n, m). c.no_mapping right (inr refl) n m), tt)),
      ))
