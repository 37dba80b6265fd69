-- What a step owes to valid tables (docs/MACHINE.md, 12): what it leaves is valid, a VM reaches only what it may, and
-- a page is cleared when a VM's last claim on it ends, and never while somebody claims it. Secrecy rests on this.
use Prim.{Unit}
use Rattle.std.specs.Prelude.{ℕ, ◌<◌, Bool, true, false, ◌||◌, List, [], ◌∷◌, ◌⊎◌, ◌≡◌, Option, None, Some}
use Rattle.numbers.specs.Limits.{VMS, READ, WRITE}
use Rattle.numbers.specs.Packing.{vm_of, left_of, right_of, page_of}
use Rattle.numbers.specs.Meaning.{Answer}
use Rattle.numbers.specs.declared.Operation.{Operation}
use Rattle.numbers.specs.declared.Operation.TheVariants as op
use Rattle.numbers.specs.declared.Side.{Side}
use Rattle.table.specs.Table.{Has}
use Rattle.model.specs.State.{Tables, route}
use Rattle.model.specs.Views.{owns, holds_dma, in_shared, shares}
use Rattle.model.specs.Effect.{Place, Store, Effect, reads, writes, clears, Control, accepted}
use Rattle.model.specs.Access.{allows}
use Rattle.model.specs.Valid.{ValidTables}

-- ---- claims
-- the VM holds the page for CPU or for DMA
abbrev pub holds_page : List ℕ → ℕ → ℕ → Bool
holds_page sets vm page = owns sets vm page || holds_dma sets vm page

-- ---- what an effect does to a page
abbrev pub PlaceOn : ℕ → List Place → Type 0
PlaceOn page [] = ⊥
PlaceOn page (x ∷ xs) = (x.page ≡ page) ⊎ PlaceOn page xs

abbrev pub StoreOn : ℕ → List Store → Type 0
StoreOn page [] = ⊥
StoreOn page (x ∷ xs) = (x.place.page ≡ page) ⊎ StoreOn page xs

-- a store to just this word of the page
abbrev pub StoreAt : ℕ → ℕ → List Store → Type 0
StoreAt page word [] = ⊥
StoreAt page word (x ∷ xs) = ((x.place.page ≡ page) × (x.place.word ≡ word)) ⊎ StoreAt page word xs

abbrev pub PageIn : ℕ → List ℕ → Type 0
PageIn page [] = ⊥
PageIn page (x ∷ xs) = (x ≡ page) ⊎ PageIn page xs

-- the VM writes this word of the page
abbrev pub Wrote : Effect → ℕ → ℕ → ℕ → Type 0
Wrote (reads vm places) v page word = ⊥
Wrote (writes vm stores) v page word = (vm ≡ v) × StoreAt page word stores
Wrote (clears pages) v page word = ⊥

-- it reads or writes some word of the page, by the access bit that this needs
abbrev pub Touches : ℕ → Effect → ℕ → ℕ → Type 0
Touches bit (reads vm places) v page = (bit ≡ READ) × (vm ≡ v) × PlaceOn page places
Touches bit (writes vm stores) v page = (bit ≡ WRITE) × (vm ≡ v) × StoreOn page stores
Touches bit (clears pages) v page = ⊥

-- the effect is a VM's access; the page is cleared
abbrev pub IsAccess : Effect → Type 0
IsAccess (reads vm places) = Unit {0}
IsAccess (writes vm stores) = Unit {0}
IsAccess (clears pages) = ⊥

abbrev pub Cleared : Effect → ℕ → Type 0
Cleared (reads vm places) page = ⊥
Cleared (writes vm stores) page = ⊥
Cleared (clears pages) page = PageIn page pages

-- ---- what a VM may reach: a page that it holds, that a pair lends to it, or of the shared span
pub data Way (t : Tables) (vm page : ℕ) : Type 0 where
  own : holds_page t.sets vm page ≡ true → Way t vm page
  lent : shares t.pairs vm page ≡ true → Way t vm page
  span : in_shared t.sets page ≡ true → Way t vm page

pub record MayReach (t : Tables) (vm page : ℕ) : Type 0 where
  pub vm_ok : vm < VMS
  pub page_ok : page < t.setup.pages
  pub way : Way t vm page

-- and what it goes through: an entry of its own onto the page, in a side's walker, that has the access bit
pub record Through (bit : ℕ) (t : Tables) (vm page : ℕ) : Type 0 where
  pub side : Side
  pub entry : ℕ
  pub stored : Has (route side t).walker entry
  pub vm_is : vm_of entry ≡ vm
  pub page_is : page_of entry ≡ page
  pub allowed : allows bit entry ≡ true

-- to read it takes READ, to write it WRITE
pub record Reaches (bit : ℕ) (t : Tables) (vm page : ℕ) : Type 0 where
  pub may : MayReach t vm page
  pub through : Through bit t vm page

-- ---- an operation that shares: the owner, the VM that it lends to, and the page
pub record Sharing : Type 0 where
  pub left : ℕ
  pub right : ℕ
  pub page : ℕ

abbrev pub sharing : Operation → Option Sharing
sharing (op.AddVm vm) = None
sharing (op.RemoveVm vm) = None
sharing (op.AssignPage vm page) = None
sharing (op.ReclaimPage vm page) = None
sharing (op.SharePage left right page) = Some (record { left = left.0; right = right.0; page = page.0 })
sharing (op.UnsharePage left right page) = None
sharing (op.On side operation) = None
sharing op.DataBarrier = None
sharing op.InstructionBarrier = None
sharing (op.RetireVm vm) = None

-- the pair was made by an accepted share of the page's owner
pub record Made (t : Tables) (operation : Operation) (answer : Answer) (w : ℕ) : Type 0 where
  pub share : sharing operation ≡ Some (record { left = left_of w; right = right_of w; page = page_of w })
  pub agreed : answer ≡ accepted
  pub owned : owns t.sets (left_of w) (page_of w) ≡ true

-- ---- all that a step owes
pub record Good (t : Tables) (operation : Operation) (c : Control) : Type 0 where
  pub valid : ValidTables c.tables
  pub reach : (bit vm page : ℕ) → Touches bit c.effect vm page → Reaches bit t vm page
  -- an access changes no table
  pub still : IsAccess c.effect → c.tables ≡ t
  -- a page on which a VM's last claim ended is cleared
  pub wiped : (vm page : ℕ) → vm < VMS → page < t.setup.pages → holds_page t.sets vm page ≡ true → holds_page c.tables.sets vm page ≡ false → Cleared c.effect page
  -- a page that was cleared is claimed by nobody
  pub free : (vm page : ℕ) → vm < VMS → page < t.setup.pages → Cleared c.effect page → holds_page c.tables.sets vm page ≡ true → ⊥
  -- no edge comes from nowhere
  pub edges : (w : ℕ) → Has c.tables.pairs w → Has t.pairs w ⊎ Made t operation c.answer w
