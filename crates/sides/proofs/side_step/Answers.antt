-- `sides::side_step` meets its contract: each arm leaves what the law of its operation says.
use Rattle.std.proofs.Common.{refl, ◌∙◌}
use Rattle.sides.specs.SideArms.{side_same, map-arm, unmap_arm, insert_arm, remove_arm, give_arm, fill_arm, empty_arm, read_arm, write_arm}
use Rattle.sides.proofs.side_step.Goals as goal

pub returns-in-MapPage : goal.returns-in-MapPage
returns-in-MapPage c =
    rw c.in-MapPage.is (side_same c.map_page.ensures.answer refl c.map_page.ensures.map c.map_page.ensures.walker c.map_page.ensures.cache refl refl refl ∙ map-arm _ _ _ _ _ _ _ _ _ _ _ _ _ _ _ _ _)

pub returns-in-UnmapPage : goal.returns-in-UnmapPage
returns-in-UnmapPage c =
    rw c.in-UnmapPage.is (side_same c.unmap_page.ensures.answer refl c.unmap_page.ensures.map c.unmap_page.ensures.walker c.unmap_page.ensures.cache refl refl refl ∙ unmap_arm _ _ _ _ _ _ _ _ _ _ _ _ _ _)

pub returns-in-InsertRegion : goal.returns-in-InsertRegion
returns-in-InsertRegion c =
    rw c.in-InsertRegion.is (side_same c.insert_region.ensures.answer c.insert_region.ensures.sets c.insert_region.ensures.map c.insert_region.ensures.walker refl refl refl refl ∙ insert_arm _ _ _ _ _ _ _ _ _ _ _ _ _)

pub returns-in-RemoveRegion : goal.returns-in-RemoveRegion
returns-in-RemoveRegion c =
    rw c.in-RemoveRegion.is
    (side_same c.remove_region.ensures.answer c.remove_region.ensures.sets c.remove_region.ensures.map c.remove_region.ensures.walker c.remove_region.ensures.cache refl refl c.remove_region.ensures.memory ∙ remove_arm _ _ _ _ _ _ _ _ _ _ _ _ _)

pub returns-in-GivePort : goal.returns-in-GivePort
returns-in-GivePort c = rw c.in-GivePort.is (side_same c.give_port.ensures.answer refl refl refl refl refl c.give_port.ensures.ports refl ∙ give_arm _ _ _ _ _ _ _ _ _ _ _ _ _ _)

pub returns-in-FillSlot : goal.returns-in-FillSlot
returns-in-FillSlot c =
    rw c.in-FillSlot.is (side_same c.fill_slot.ensures.answer refl refl refl c.fill_slot.ensures.cache c.fill_slot.ensures.hand refl refl ∙ fill_arm _ _ _ _ _ _ _ _ _ _ _ _ _ _)

pub returns-in-EmptySlot : goal.returns-in-EmptySlot
returns-in-EmptySlot c = rw c.in-EmptySlot.is (side_same c.empty_slot.ensures.answer refl refl refl c.empty_slot.ensures.cache refl refl refl ∙ empty_arm _ _ _ _ _ _ _ _ _ _ _ _ _)

pub returns-in-ReadWord : goal.returns-in-ReadWord
returns-in-ReadWord c = rw c.in-ReadWord.is (side_same c.read_word.ensures refl refl refl refl refl refl refl ∙ read_arm _ _ _ _ _ _ _ _ _ _ _ _ _ _ _)

pub returns-in-WriteWord : goal.returns-in-WriteWord
returns-in-WriteWord c = rw c.in-WriteWord.is (side_same c.write_word.ensures.0 refl refl refl refl refl refl c.write_word.ensures.1 ∙ write_arm _ _ _ _ _ _ _ _ _ _ _ _ _ _ _ _)
