-- The coefficient sets by name: the eleven that globe7 is given, and the fourteen that glob7s is. Made by scripts/tables.py.
use Rattle.std.specs.Prelude.{List, Float}
use Rattle.tables.specs.Tables.{pt_t, ps_t, pd_t0, pd_t1, pd_t2, pd_t3, pd_t4, pd_t5, pd_t6, pd_t7, pd_t8, ptl_t0, ptl_t1, ptl_t2, ptl_t3, pma_t0, pma_t1, pma_t2, pma_t3, pma_t4, pma_t5, pma_t6, pma_t7, pma_t8, pma_t9}

pub data Wide : Type 0 where
  PT PS PD0 PD1 PD2 PD3 PD4 PD5 PD6 PD7 PD8 : Wide

abbrev pub wide : Wide → List Float
wide PT = pt_t
wide PS = ps_t
wide PD0 = pd_t0
wide PD1 = pd_t1
wide PD2 = pd_t2
wide PD3 = pd_t3
wide PD4 = pd_t4
wide PD5 = pd_t5
wide PD6 = pd_t6
wide PD7 = pd_t7
wide PD8 = pd_t8

pub data Narrow : Type 0 where
  PTL0 PTL1 PTL2 PTL3 PMA0 PMA1 PMA2 PMA3 PMA4 PMA5 PMA6 PMA7 PMA8 PMA9 : Narrow

abbrev pub narrow : Narrow → List Float
narrow PTL0 = ptl_t0
narrow PTL1 = ptl_t1
narrow PTL2 = ptl_t2
narrow PTL3 = ptl_t3
narrow PMA0 = pma_t0
narrow PMA1 = pma_t1
narrow PMA2 = pma_t2
narrow PMA3 = pma_t3
narrow PMA4 = pma_t4
narrow PMA5 = pma_t5
narrow PMA6 = pma_t6
narrow PMA7 = pma_t7
narrow PMA8 = pma_t8
narrow PMA9 = pma_t9
