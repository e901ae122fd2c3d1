use Rattle.range_masks.proofs.part.mask_on_disk.Given as goal

abbrev pub ghosts-range_block : goal.ghosts-range_block
ghosts-range_block g a = record { name = a.blank.name; parts = a.blank.parts }
